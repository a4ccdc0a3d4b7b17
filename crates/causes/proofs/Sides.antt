-- The test for condition 5: in a term whose choices hold keys on one side only, two entries of a key stand on two sides of a parallel
-- exactly if the second is not below the first.
use mathlib.Core.Path.{◌≡◌, refl, sym, ap, ◌∙◌}
use mathlib.Core.Logic.Iff
use mathlib.Core.Logic.{◌⊎◌, inl, inr, ⊎_elim, ◌↔◌}
use mathlib.Core.List.{List, [], ◌∷◌, ◌++◌}
use Prim.Native.Nat.{ℕ, zero, suc, ◌+◌, ◌≤◌, ◌<◌}
use native.Mathlib.Decide.{ℕ_discrete}
use native.Mathlib.Omega.{arith}
use lib.ListN.{length, length-append}
use Rattle.ccsk.specs.Term.{Term, nil, pre, cho, par, res, Std, size}
use Rattle.ccsk.proofs.Basic.{std_labels}
use Rattle.sound.specs.Sound.{Chosen, Apart, Split}
use Rattle.causes.specs.Entry.{Entry, Scopes, under, open_scopes, marked, entries, all, only}
use Rattle.causes.specs.Tests.{EachKey, Beside}
use Rattle.causes.proofs.Entries.{Every, Within, within, every_only, only-append, only_same, only_other, count_entries}

-- two entries, and the second is not below the first
abbrev pub Parted : List Entry → Type 0
Parted [] = ⊥
Parted (e ∷ []) = ⊥
Parted (e ∷ (f ∷ [])) = e.end ≤ f.row
Parted (e ∷ (f ∷ (g ∷ l))) = ⊥

-- entries of one key below a prefix that holds it, too
below : (n b : ℕ) (e : Entry) (l : List Entry) → length (e ∷ l) ≤ 2 → b ≤ e.end → Every (Within n b) l → Parted l ↔ Parted (e ∷ l)
below n b e [] h k p = (λ x. x, λ x. x)
below n b e (f ∷ []) h k p = (λ x. absurd x, λ x. omega arith)
below n b e (f ∷ (g ∷ l)) h k p = absurd (omega arith)

-- one side of a choice has no entries
choice : (x y : List Entry) → length (x ++ y) ≤ 2 → (x ≡ []) ⊎ (y ≡ []) → Parted x ⊎ Parted y ↔ Parted (x ++ y)
choice [] y h q = (⊎_elim (λ z. absurd z) (λ z. z), λ z. inr z)
choice (e ∷ []) [] h q = (⊎_elim (λ z. z) (λ z. z), λ z. inl z)
choice (e ∷ []) (f ∷ y) h (inl q) = let z : ◌≡◌ {A = ℕ} 0 1 = cc in absurd (omega arith)
choice (e ∷ []) (f ∷ y) h (inr q) = let z : ◌≡◌ {A = ℕ} 0 1 = cc in absurd (omega arith)
choice (e ∷ (f ∷ [])) [] h q = (⊎_elim (λ z. z) (λ z. absurd z), λ z. inl z)
choice (e ∷ (f ∷ [])) (g ∷ y) h q = absurd (omega arith)
choice (e ∷ (f ∷ (g ∷ x))) y h q = absurd (omega (arith))

-- the two sides of a parallel
parallel : (n c b : ℕ) (x y : List Entry) → length (x ++ y) ≤ 2 → Every (Within n c) x → Every (Within c b) y
    → ((length x ≡ 1) × (length y ≡ 1)) ⊎ (Parted x ⊎ Parted y) ↔ Parted (x ++ y)
parallel n c b [] y h p q = (⊎_elim (λ z. absurd (omega arith)) (⊎_elim (λ z. absurd z) (λ z. z)), λ z. inr (inr z))
parallel n c b (e ∷ []) [] h p q = (⊎_elim (λ z. absurd (omega arith)) (⊎_elim (λ z. z) (λ z. z)), λ z. inr (inl z))
parallel n c b (e ∷ []) (f ∷ []) h p q = (λ z. omega arith, λ z. inl (refl, refl))
parallel n c b (e ∷ []) (f ∷ (g ∷ y)) h p q = absurd (omega arith)
parallel n c b (e ∷ (f ∷ [])) [] h p q = (⊎_elim (λ z. absurd (omega arith)) (⊎_elim (λ z. z) (λ z. absurd z)), λ z. inr (inl z))
parallel n c b (e ∷ (f ∷ [])) (g ∷ y) h p q = absurd (omega arith)
parallel n c b (e ∷ (f ∷ (g ∷ x))) y h p q = absurd (omega arith)

-- a term without keys has no entries
no_entries : (m n row u : ℕ) (s : Scopes) (t : Term) → 0 < m → Std t → only m (entries n row u s t) ≡ []
no_entries m n row u s t h d = empty (only m (entries n row u s t)) (sym (count_entries m n row u s t h) ∙ ap length (std_labels m t d h))
  where
    empty : (l : List Entry) → length l ≡ 0 → l ≡ []
    empty [] e = refl
    empty (x ∷ l) e = absurd (omega arith)

either : {A B C D : Type 0} → A ↔ C → B ↔ D → A ⊎ B ↔ C ⊎ D
either f g = (⊎_elim (λ a. inl (f.0 a)) (λ b. inr (g.0 b)), ⊎_elim (λ a. inl (f.1 a)) (λ b. inr (g.1 b)))

module _ (m : ℕ) (h : 0 < m) where
  -- both sides of a choice or a parallel, each with at most two entries
  shorter : (x y : List Entry) → length (only m (x ++ y)) ≤ 2 → (length (only m x) ≤ 2) × (length (only m y) ≤ 2) × (length (only m x ++ only m y) ≤ 2)
  shorter x y k = let e = length-append (only m x) (only m y) in let q = ap length (only-append m x y) in omega arith

  pub parted : (n row u : ℕ) (s : Scopes) (t : Term) → Chosen t → length (only m (entries n row u s t)) ≤ 2 → Apart m t ↔ Parted (only m (entries n row u s t))
  unfolding entries only
  parted n row u s nil c k = (λ x. x, λ x. x)
  parted n row u s (pre a zero t) c k = parted (suc n) row u s t c k
  parted n row u s (pre a (suc j) t) c k = pick (ℕ_discrete m (suc j)) k (parted (suc n) (suc row) (suc j) s t c)
    where
      e : Entry
      e = record { key = suc j; action = a; row = row; end = suc row + marked t; scope = s a; up = u }

      l : List Entry
      l = entries (suc n) (suc row) (suc j) s t

      pick : Dec (m ≡ suc j) → length (only m (e ∷ l)) ≤ 2 → (length (only m l) ≤ 2 → Apart m t ↔ Parted (only m l)) → Apart m t ↔ Parted (only m (e ∷ l))
      pick (yes q) k i =
          let z : length (e ∷ only m l) ≤ 2 = rw (only_same m e l q) at k in
          rw (only_same m e l q) (Iff.trans (i (omega arith)) (below (suc row) (suc row + marked t) e (only m l) z (omega arith) (every_only (Within (suc row) (suc row + marked t)) m l (within (suc n) (suc row) (suc j) (suc row + marked t) s t (omega arith)))))
      pick (no q) k i = rw (only_other m e l q) (i (rw (only_other m e l q) at k))
  parted n row u s (cho t r) c k = pick (parted (suc n) row u s t c.1) (parted (suc n + size t) (row + marked t) u s r c.2)
    where
      x : List Entry
      x = entries (suc n) row u s t

      y : List Entry
      y = entries (suc n + size t) (row + marked t) u s r

      pick : (length (only m x) ≤ 2 → Apart m t ↔ Parted (only m x)) → (length (only m y) ≤ 2 → Apart m r ↔ Parted (only m y)) → Apart m (cho t r) ↔ Parted (only m (x ++ y))
      pick i j = let z = shorter x y k in
          rw (only-append m x y) (Iff.trans (either (i z.0) (j z.1)) (choice (only m x) (only m y) z.2 (⊎_elim (λ d. inl (no_entries m (suc n) row u s t h d)) (λ d. inr (no_entries m (suc n + size t) (row + marked t) u s r h d)) c.0)))
  parted n row u s (par t r) v k = pick (parted (suc n) row u s t v.0) (parted (suc n + size t) (row + marked t) u s r v.1)
    where
      c : ℕ
      c = row + marked t

      b : ℕ
      b = c + marked r

      x : List Entry
      x = entries (suc n) row u s t

      y : List Entry
      y = entries (suc n + size t) (row + marked t) u s r

      pick : (length (only m x) ≤ 2 → Apart m t ↔ Parted (only m x)) → (length (only m y) ≤ 2 → Apart m r ↔ Parted (only m y)) → Apart m (par t r) ↔ Parted (only m (x ++ y))
      pick i j = let z = shorter x y k in
          rw (only-append m x y, count_entries m (suc n) row u s t h, count_entries m (suc n + size t) (row + marked t) u s r h) (Iff.trans (either (λ v. v, λ v. v) (either (i z.0) (j z.1)))
          (parallel row c b (only m x) (only m y) z.2
          (every_only (Within row c) m x (within (suc n) row u c s t (omega arith)))
          (every_only (Within c b) m y (within (suc n + size t) c u b s r (omega arith)))))
  parted n row u s (res a t) c k = parted (suc n) row u (under a n s) t c k

beside_parted : (l : List Entry) → (length l ≡ 2 → Parted l) ↔ Beside l
beside_parted [] = (λ f. tt, λ b e. absurd (omega arith))
beside_parted (e ∷ []) = (λ f. tt, λ b e. absurd (omega arith))
beside_parted (e ∷ (f ∷ [])) = (λ f. f refl, λ b e. b)
beside_parted (e ∷ (f ∷ (g ∷ l))) = (λ f. tt, λ b e. absurd (omega arith))

-- condition 5
pub split_by_entries : (t : Term) → Chosen t → Split t ↔ EachKey Beside (all t)
split_by_entries t c = (to, back)
  where
    to : Split t → EachKey Beside (all t)
    to w m h = (beside_parted (only m (all t))).0 (λ e. (parted m h 0 0 0 open_scopes t c (omega arith)).0 (w m h (count_entries m 0 0 0 open_scopes t h ∙ e)))

    back : EachKey Beside (all t) → Split t
    back w m h e = let q = sym (count_entries m 0 0 0 open_scopes t h) ∙ e in (parted m h 0 0 0 open_scopes t c (omega arith)).1 ((beside_parted (only m (all t))).1 (w m h) q)
