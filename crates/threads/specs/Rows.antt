-- Links as rows of two columns: the upper key of row i and the lower. 0 in the first column says that there is no such row.
use Rattle.std.specs.Prelude.{◌≡◌, ◌⊎◌, List, ℕ, zero, suc, ◌<◌, get_or}
use Rattle.std.proofs.Math.Decide.{ℕ_discrete}
use Rattle.ccsk.specs.Numbers.{in?}
use Rattle.ccsk.specs.Term.{Key}
use Rattle.causes.specs.Links.{one_if}

-- a row leads from the key m down to k
abbrev pub Leads : List ℕ → List ℕ → Key → Key → Type 0
Leads us ls m k = (i : ℕ) × (0 < m) × (get_or us i 0 ≡ m) × (get_or ls i 0 ≡ k)

-- how many of the first i rows lead from m to a key that is not out
unfoldable pub owing : List ℕ → List ℕ → Key → List Key → ℕ → ℕ
owing us ls m out zero = 0
owing us ls m out (suc i) = one_if (ℕ_discrete m (get_or us i 0)) (in? (get_or ls i 0) out) (owing us ls m out i)

-- one more, if both hold
abbrev pub one_both : {A B : Type 0} → Dec A → Dec B → ℕ → ℕ
one_both (yes a) (yes b) n = suc n
one_both (yes a) (no b) n = n
one_both (no a) d n = n

-- how many of the first i rows lead from m to k
unfoldable pub between : List ℕ → List ℕ → Key → Key → ℕ → ℕ
between us ls m k zero = 0
between us ls m k (suc i) = one_both (ℕ_discrete m (get_or us i 0)) (ℕ_discrete k (get_or ls i 0)) (between us ls m k i)

-- k is one of the first n keys of a list
abbrev pub Among : ℕ → List Key → Key → Type 0
Among n keys k = (r : ℕ) × (r < n) × (get_or keys r 0 ≡ k)

-- row i leads from one of the keys S down to k
abbrev pub Under : (Key → Type 0) → List ℕ → List ℕ → Key → ℕ → Type 0
Under S us ls k i = (get_or ls i 0 ≡ k) × S (get_or us i 0)

-- of the rows below `end` that lead from one of the keys S down to k, h is the last; 0 if there is none
pub record Last (S : Key → Type 0) (us ls : List ℕ) (k : Key) (end h : ℕ) : Type 0 where
  pub there : (h ≡ 0) ⊎ Under S us ls k h
  pub before : h < end
  pub none : (i : ℕ) → h < i → i < end → ¬ Under S us ls k i
