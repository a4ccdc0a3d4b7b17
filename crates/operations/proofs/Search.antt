-- The first pair of numbers, the left one compared first, at or after a given pair: if a property that can be decided holds of only finitely many, it is found or there is none.
use mathlib.Core.Path.{◌≡◌, refl}
use mathlib.Core.Logic.{◌⊎◌, inl, inr, ⊎_elim}
use Prim.Native.Nat.{ℕ, zero, suc, ◌+◌, ◌<◌, ◌≤◌}
use native.Mathlib.Decide.{ℕ_discrete}
use native.Mathlib.Omega.{arith}
use Rattle.operations.specs.Order.{AtOrAfter}

-- k is the least number at or after i that has S
abbrev pub Least : (ℕ → Type 0) → ℕ → Type 0
Least S i = (k : ℕ) × (i ≤ k) × S k × ((j : ℕ) → i ≤ j → S j → k ≤ j)

module _ (S : ℕ → Type 0) (s? : (k : ℕ) → Dec (S k)) where
  unfoldable pub search_up : (f i : ℕ) → Least S i ⊎ ((j : ℕ) → i ≤ j → j < i + f → ¬ S j)
  search_up zero i = inr (λ j h g s. omega arith)
  search_up (suc f) i = pick (s? i) (search_up f (suc i))
    where
      pick : Dec (S i) → Least S (suc i) ⊎ ((j : ℕ) → suc i ≤ j → j < suc i + f → ¬ S j) → Least S i ⊎ ((j : ℕ) → i ≤ j → j < i + suc f → ¬ S j)
      pick (yes s) r = inl (i, omega arith, s, λ j h z. h)
      pick (no s) (inl r) = inl (r.0, omega arith, r.2, λ j h z. other j h z (ℕ_discrete i j))
        where
          other : (j : ℕ) → i ≤ j → S j → Dec (i ≡ j) → r.0 ≤ j
          other j h z (yes e) = absurd (s (rw e z))
          other j h z (no e) = r.3 j (omega arith) z
      pick (no s) (inr r) = inr (λ j h g z. other j h g z (ℕ_discrete i j))
        where
          other : (j : ℕ) → i ≤ j → j < i + suc f → S j → Dec (i ≡ j) → ⊥
          other j h g z (yes e) = s (rw e z)
          other j h g z (no e) = r j (omega arith) (omega arith) z

  -- all that have S are below n
  unfoldable pub least? : (n : ℕ) → ((j : ℕ) → S j → j < n) → (i : ℕ) → Least S i ⊎ ((j : ℕ) → i ≤ j → ¬ S j)
  least? n b i = ⊎_elim inl (λ f. inr (λ j h s. f j h (omega (arith, b j s)) s)) (search_up n i)

-- (p', q') has S, is at or after (p, q), and is the first such
pub record FirstAt (S : ℕ → ℕ → Type 0) (p q p' q' : ℕ) : Type 0 where
  pub holds : S p' q'
  pub after : AtOrAfter p q p' q'
  pub least : (p'' q'' : ℕ) → AtOrAfter p q p'' q'' → S p'' q'' → AtOrAfter p' q' p'' q''

-- a first pair, or none
abbrev pub Outcome : (ℕ → ℕ → Type 0) → ℕ → ℕ → Type 0
Outcome S p q = ((p' : ℕ) × (q' : ℕ) × FirstAt S p q p' q') ⊎ ((p' q' : ℕ) → AtOrAfter p q p' q' → ¬ S p' q')

module _ (S : ℕ → ℕ → Type 0) (s? : (p q : ℕ) → Dec (S p q)) (n : ℕ) (bound : (p q : ℕ) → S p q → (p < n) × (q < n)) where
  -- the least q of p
  abbrev pub Row : ℕ → Type 0
  Row p = Least (S p) 0

  unfoldable pub row? : (p : ℕ) → Dec (Row p)
  row? p = pick (least? (S p) (s? p) n (λ j s. (bound p j s).1) 0)
    where
      pick : Least (S p) 0 ⊎ ((j : ℕ) → 0 ≤ j → ¬ S p j) → Dec (Least (S p) 0)
      pick (inl r) = yes r
      pick (inr f) = no (λ r. f r.0 r.1 r.2)

  pub row : (p q : ℕ) → S p q → Row p
  row p q s = pick (least? (S p) (s? p) n (λ j z. (bound p j z).1) 0)
    where
      pick : Least (S p) 0 ⊎ ((j : ℕ) → 0 ≤ j → ¬ S p j) → Row p
      pick (inl r) = r
      pick (inr g) = absurd (g q (omega arith) s)

  unfoldable pub first? : (p q : ℕ) → Outcome S p q
  first? p q = here (least? (S p) (s? p) n (λ j s. (bound p j s).1) q) (least? Row row? n (λ j r. (bound j r.0 r.2).0) (suc p))
    where
      later : ((j : ℕ) → q ≤ j → ¬ S p j) → Least Row (suc p) ⊎ ((j : ℕ) → suc p ≤ j → ¬ Row j) → Outcome S p q
      later f (inl r) = let v = r.2 in inl (r.0, v.0, record { holds = v.2; after = inl r.1; least = λ p'' q'' a s. ⊎_elim (λ h. behind p'' q'' s (r.3 p'' h (row p'' q'' s)) (ℕ_discrete r.0 p'')) (λ e. absurd (f q'' e.1 (rw e.0 s))) a })
        where
          behind : (p'' q'' : ℕ) → S p'' q'' → r.0 ≤ p'' → Dec (r.0 ≡ p'') → AtOrAfter r.0 r.2.0 p'' q''
          behind p'' q'' s h (yes e) = inr (e, r.2.3 q'' (omega arith) (rw e s))
          behind p'' q'' s h (no e) = inl (omega arith)
      later f (inr g) = inr (λ p' q' a s. ⊎_elim (λ h. g p' h (row p' q' s)) (λ e. f q' e.1 (rw e.0 s)) a)

      here : Least (S p) q ⊎ ((j : ℕ) → q ≤ j → ¬ S p j) → Least Row (suc p) ⊎ ((j : ℕ) → suc p ≤ j → ¬ Row j) → Outcome S p q
      here (inl r) z = inl (p, r.0, record { holds = r.2; after = inr (refl, r.1); least = λ p'' q'' a s. ⊎_elim inl (λ e. inr (e.0, r.3 q'' e.1 (rw e.0 s))) a })
      here (inr f) z = later f z

-- two pairs each at or after the other are the same
pub same_pair : (p q p' q' : ℕ) → AtOrAfter p q p' q' → AtOrAfter p' q' p q → (p ≡ p') × (q ≡ q')
same_pair p q p' q' (inl h) (inl g) = absurd (omega arith)
same_pair p q p' q' (inl h) (inr e) = absurd (omega arith)
same_pair p q p' q' (inr e) (inl h) = absurd (omega arith)
same_pair p q p' q' (inr e) (inr f) = omega arith
