-- Lists of numbers: membership, taking a number out, and how many different ones are left.
use mathlib.Core.Path.{◌≡◌, refl, sym, ap, ◌∙◌}
use mathlib.Core.Logic.{◌⊎◌, inl, inr, ⊎_elim, ◌≢◌, ◌↔◌}
use mathlib.Core.List.{List, [], ◌∷◌, ◌++◌}
use mathlib.Core.Bool.{Bool, true, false}
use Prim.Native.Nat.{ℕ, zero, suc, ◌≤◌, ◌<◌}
use native.Mathlib.Decide.{ℕ_discrete}
use native.Mathlib.Omega.{arith}
use borrow.Author.Tests.{eq-eqb, ne_eqb}
use lib.Dec.{eqb}
use lib.ListN.{length, get_or, replicate}
use Rattle.ccsk.specs.Numbers.{In, in?, new, distinct, LeastFree}
use Rattle.ccsk.specs.Without.{skip, without}

pub in_left : (m : ℕ) (x y : List ℕ) → In m x → In m (x ++ y)
in_left m [] y i = absurd i
in_left m (a ∷ x) y (inl e) = inl e
in_left m (a ∷ x) y (inr i) = inr (in_left m x y i)

pub in_right : (m : ℕ) (x y : List ℕ) → In m y → In m (x ++ y)
in_right m [] y i = i
in_right m (a ∷ x) y i = inr (in_right m x y i)

pub in_either : (m : ℕ) (x y : List ℕ) → In m (x ++ y) → In m x ⊎ In m y
in_either m [] y i = inr i
in_either m (a ∷ x) y (inl e) = inl (inl e)
in_either m (a ∷ x) y (inr i) = ⊎_elim (λ j. inl (inr j)) inr (in_either m x y i)

pub without-append : (m : ℕ) (x y : List ℕ) → without m (x ++ y) ≡ without m x ++ without m y
unfolding without
without-append m [] y = refl
without-append m (a ∷ x) y = rw (without-append m x y) (pull (eqb m a))
  where
    pull : (b : Bool) → skip b a (without m x ++ without m y) ≡ skip b a (without m x) ++ without m y
    pull true = refl
    pull false = refl

pub without_same : (m a : ℕ) (l : List ℕ) → m ≡ a → without m (a ∷ l) ≡ without m l
unfolding without
without_same m a l e = rw (eq-eqb m a e)

pub without_other : (m a : ℕ) (l : List ℕ) → m ≢ a → without m (a ∷ l) ≡ a ∷ without m l
unfolding without
without_other m a l e = rw (ne_eqb m a e)

pub without_none : (m : ℕ) (l : List ℕ) → ¬ In m l → without m l ≡ l
unfolding without
without_none m [] f = refl
without_none m (a ∷ l) f = rw (ne_eqb m a (λ e. f (inl e)), without_none m l (λ i. f (inr i)))

pub in_without : (n m : ℕ) (l : List ℕ) → n ≢ m → In n (without m l) ↔ In n l
unfolding without
in_without n m [] e = (λ i. absurd i, λ i. i)
in_without n m (a ∷ l) e = pick (ℕ_discrete m a) (in_without n m l e)
  where
    pick : Dec (m ≡ a) → In n (without m l) ↔ In n l → In n (without m (a ∷ l)) ↔ In n (a ∷ l)
    pick (yes q) i = rw (without_same m a l q) (λ j. inr (i.0 j), λ j. ⊎_elim (λ z. absurd (e (z ∙ sym q))) i.1 j)
    pick (no q) i = rw (without_other m a l q) (⊎_elim inl (λ j. inr (i.0 j)), ⊎_elim inl (λ j. inr (i.1 j)))

new_old : {A : Type 0} (d : Dec A) (n : ℕ) → A → new d n ≡ n
new_old (yes a) n x = refl
new_old (no a) n x = absurd (a x)

new_new : {A : Type 0} (d : Dec A) (n : ℕ) → ¬ A → new d n ≡ suc n
new_new (yes a) n x = absurd (x a)
new_new (no a) n x = refl

pub distinct_old : (a : ℕ) (l : List ℕ) → In a l → distinct (a ∷ l) ≡ distinct l
unfolding distinct
distinct_old a l i = new_old (in? a l) (distinct l) i

pub distinct_new : (a : ℕ) (l : List ℕ) → ¬ In a l → distinct (a ∷ l) ≡ suc (distinct l)
unfolding distinct
distinct_new a l i = new_new (in? a l) (distinct l) i

-- what stands at a place of a list is in it
pub get_or_in : (l : List ℕ) (i : ℕ) → i < length l → In (get_or l i 0) l
get_or_in [] i h = absurd (omega arith)
get_or_in (a ∷ l) zero h = inl refl
get_or_in (a ∷ l) (suc i) h = inr (get_or_in l i (omega arith))

-- a row of zeros has 0 everywhere, and past its end too
pub get_or_zeros : (n i : ℕ) → ◌≡◌ {A = ℕ} (get_or (replicate n 0) i 0) 0
get_or_zeros zero i = refl
get_or_zeros (suc n) zero = refl
get_or_zeros (suc n) (suc i) = get_or_zeros n i

-- no more different ones than numbers
pub distinct-length : (l : List ℕ) → distinct l ≤ length l
unfolding distinct
distinct-length [] = omega arith
distinct-length (a ∷ l) = pick (in? a l) (distinct-length l)
  where
    pick : Dec (In a l) → distinct l ≤ length l → distinct (a ∷ l) ≤ suc (length l)
    pick (yes i) h = omega (arith, distinct_old a l i)
    pick (no i) h = omega (arith, distinct_new a l i)

-- to take out a number is to have one less
pub distinct_without : (m : ℕ) (l : List ℕ) → In m l → distinct l ≡ suc (distinct (without m l))
distinct_without m [] i = absurd i
distinct_without m (a ∷ l) i = pick (ℕ_discrete m a) (in? m l) (in? a l) (distinct_without m l)
  where
    pick : Dec (m ≡ a) → Dec (In m l) → Dec (In a l) → (In m l → distinct l ≡ suc (distinct (without m l))) → distinct (a ∷ l) ≡ suc (distinct (without m (a ∷ l)))
    pick (yes e) (yes j) k h = rw (without_same m a l e, distinct_old a l (rw e at j)) (h j)
    pick (yes e) (no j) k h = rw (without_same m a l e, distinct_new a l (λ z. j (rw e z)), without_none m l j)
    pick (no e) j (yes k) h = rw (without_other m a l e, distinct_old a l k, distinct_old a (without m l) ((in_without a m l (λ z. e (sym z))).1 k)) (h (⊎_elim (λ z. absurd (e z)) (λ z. z) i))
    pick (no e) j (no k) h = rw (without_other m a l e, distinct_new a l k, distinct_new a (without m l) (λ z. k ((in_without a m l (λ z. e (sym z))).0 z))) (ap suc (h (⊎_elim (λ z. absurd (e z)) (λ z. z) i)))

pub gone : (m : ℕ) (l : List ℕ) → ¬ In m (without m l)
unfolding without
gone m [] i = i
gone m (a ∷ l) i = pick (ℕ_discrete m a) (gone m l)
  where
    pick : Dec (m ≡ a) → ¬ In m (without m l) → ⊥
    pick (yes e) f = f (rw (without_same m a l e) at i)
    pick (no e) f = ⊎_elim e f (rw (without_other m a l e) at i)

skip_length : (b : Bool) (a : ℕ) (l : List ℕ) → length (skip b a l) ≤ suc (length l)
skip_length true a l = omega arith
skip_length false a l = omega arith

without-length : (m : ℕ) (l : List ℕ) → length (without m l) ≤ length l
unfolding without
without-length m [] = omega arith
without-length m (a ∷ l) = omega (arith, skip_length (eqb m a) a (without m l), without-length m l)

-- a list is shorter without one of its numbers
pub without_shorter : (m : ℕ) (l : List ℕ) → In m l → length (without m l) < length l
without_shorter m [] i = absurd i
without_shorter m (a ∷ l) i = pick (ℕ_discrete m a) (without_shorter m l)
  where
    pick : Dec (m ≡ a) → (In m l → length (without m l) < length l) → length (without m (a ∷ l)) < suc (length l)
    pick (yes e) f = rw (without_same m a l e) (omega (arith, without-length m l))
    pick (no e) f = rw (without_other m a l e) (omega (arith, f (⊎_elim (λ z. absurd (e z)) (λ z. z) i)))

-- a list that holds 1 to n holds at least n different numbers
pub row_distinct : (n : ℕ) (l : List ℕ) → ((k : ℕ) → 0 < k → k ≤ n → In k l) → n ≤ distinct l
row_distinct zero l f = omega arith
row_distinct (suc n) l f = omega (arith, distinct_without (suc n) l (f (suc n) (omega arith) (omega arith)), row_distinct n (without (suc n) l) smaller)
  where
    smaller : (k : ℕ) → 0 < k → k ≤ n → In k (without (suc n) l)
    smaller k p h = (in_without k (suc n) l (λ e. omega arith)).1 (f k p (omega arith))

-- 1 to n stand in l, or the least free number is at most n
count_up : (n : ℕ) (l : List ℕ) → ((k : ℕ) → 0 < k → k ≤ n → In k l) ⊎ ((k : ℕ) × (k ≤ n) × LeastFree l k)
count_up zero l = inl (λ k p h. absurd (omega arith))
count_up (suc n) l = pick (count_up n l) (in? (suc n) l)
  where
    pick : ((k : ℕ) → 0 < k → k ≤ n → In k l) ⊎ ((k : ℕ) × (k ≤ n) × LeastFree l k) → Dec (In (suc n) l) → ((k : ℕ) → 0 < k → k ≤ suc n → In k l) ⊎ ((k : ℕ) × (k ≤ suc n) × LeastFree l k)
    pick (inr r) d = inr (r.0, omega arith, r.2)
    pick (inl f) (no i) = inr (suc n, omega arith, record { pos = omega arith; free = i; least = λ j p h. f j p (omega arith) })
    pick (inl f) (yes i) = inl (λ k p h. last k p h (ℕ_discrete k (suc n)))
      where
        last : (k : ℕ) → 0 < k → k ≤ suc n → Dec (k ≡ suc n) → In k l
        last k p h (yes e) = rw e i
        last k p h (no e) = f k p (omega arith)

-- the least free number is at most one more than the number of different ones
pub least_free_lem : (l : List ℕ) → (k : ℕ) × (k ≤ suc (distinct l)) × LeastFree l k
least_free_lem l = pick (count_up (suc (distinct l)) l)
  where
    pick : ((k : ℕ) → 0 < k → k ≤ suc (distinct l) → In k l) ⊎ ((k : ℕ) × (k ≤ suc (distinct l)) × LeastFree l k) → (k : ℕ) × (k ≤ suc (distinct l)) × LeastFree l k
    pick (inr r) = r
    pick (inl f) = absurd (omega (arith, row_distinct (suc (distinct l)) l f))
