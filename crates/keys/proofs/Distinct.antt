-- How many different numbers a list has when one more stands at its end.
use mathlib.Core.Path.{◌≡◌, refl, sym, ap}
use mathlib.Core.Logic.{inl, inr, ⊎_elim, ◌≢◌}
use mathlib.Core.List.{List, [], ◌∷◌, ◌++◌}
use Prim.Native.Nat.{ℕ, suc}
use native.Mathlib.Decide.{ℕ_discrete}
use Rattle.ccsk.specs.Numbers.{In, in?, distinct}
use Rattle.ccsk.proofs.Lists.{in_left, in_right, in_either, distinct_old, distinct_new}

-- the list with a at its end
abbrev pub snoc : List ℕ → ℕ → List ℕ
snoc l a = l ++ (a ∷ [])

pub in_snoc : (b a : ℕ) (l : List ℕ) → b ≢ a → In b (snoc l a) → In b l
in_snoc b a l n i = ⊎_elim (λ j. j) (⊎_elim (λ e. absurd (n e)) (λ j. absurd j)) (in_either b l (a ∷ []) i)

pub snoc_last : (a : ℕ) (l : List ℕ) → In a (snoc l a)
snoc_last a l = in_right a l (a ∷ []) (inl refl)

-- a number that is not in the list counts
pub distinct_snoc_new : (a : ℕ) (l : List ℕ) → ¬ In a l → distinct (snoc l a) ≡ suc (distinct l)
distinct_snoc_new a [] f = distinct_new a [] f
distinct_snoc_new a (b ∷ l) f = pick (in? b l) (distinct_snoc_new a l (λ i. f (inr i)))
  where
    pick : Dec (In b l) → distinct (snoc l a) ≡ suc (distinct l) → distinct (snoc (b ∷ l) a) ≡ suc (distinct (b ∷ l))
    pick (yes i) h = rw (distinct_old b l i, distinct_old b (snoc l a) (in_left b l (a ∷ []) i)) h
    pick (no i) h = rw (distinct_new b l i, distinct_new b (snoc l a) (λ j. i (in_snoc b a l (λ e. f (inl (sym e))) j))) (ap suc h)

-- a number that is in the list already does not
pub distinct_snoc_old : (a : ℕ) (l : List ℕ) → In a l → distinct (snoc l a) ≡ distinct l
distinct_snoc_old a [] i = absurd i
distinct_snoc_old a (b ∷ l) i = pick (in? b l) (in? a l) (ℕ_discrete b a) (distinct_snoc_old a l) (distinct_snoc_new a l)
  where
    pick : Dec (In b l) → Dec (In a l) → Dec (b ≡ a) → (In a l → distinct (snoc l a) ≡ distinct l) → (¬ In a l → distinct (snoc l a) ≡ suc (distinct l))
        → distinct (snoc (b ∷ l) a) ≡ distinct (b ∷ l)
    pick (yes j) (yes q) e old fresh = rw (distinct_old b l j, distinct_old b (snoc l a) (in_left b l (a ∷ []) j)) (old q)
    pick (yes j) (no q) e old fresh = absurd (q (⊎_elim (λ z. rw z j) (λ z. z) i))
    pick (no j) (yes q) (yes e) old fresh = absurd (j (rw e q))
    pick (no j) (no q) (yes e) old fresh = rw (distinct_new b l j, distinct_old b (snoc l a) (rw e (snoc_last a l))) (fresh q)
    pick (no j) q (no e) old fresh =
        rw (distinct_new b l j, distinct_new b (snoc l a) (λ z. j (in_snoc b a l e z))) (ap suc (old (⊎_elim (λ z. absurd (e (sym z))) (λ z. z) i)))
