-- The root holds the least of all leaves.
use mathlib.Core.Path.{◌≡◌, refl, ◌∙◌}
use mathlib.Core.Logic.{⊎_elim}
use mathlib.Core.List.{List}
use Prim.Native.Nat.{ℕ, zero, suc, ◌+◌, ◌-◌, ◌/◌, ◌≤◌, ◌<◌}
use native.Mathlib.Decide.{ℕ_discrete, dec_lt}
use native.Mathlib.Omega.{arith}
use lib.ListN.{get_or}
use Rattle.least.specs.Tree.{leaf, Holds, Tree}

module _ (n : ℕ) (tree : List ℕ) (T : Tree n tree) where
  -- a place is not above the two below it
  step : (i : ℕ) → 1 < i → i < n + n → get_or tree (i / 2) 0 ≤ get_or tree i 0
  step i h g = pick (ℕ_discrete (i / 2 + i / 2) i) (T.inner (i / 2) (omega arith) (omega arith))
    where
      pick : Dec (i / 2 + i / 2 ≡ i) → Holds tree (i / 2) → get_or tree (i / 2) 0 ≤ get_or tree i 0
      pick (yes e) L = rw e at L.first
      pick (no e) L = let z : i / 2 + i / 2 + 1 ≡ i = omega arith in rw z at L.second

  under : (d i : ℕ) → i ≤ d → 0 < i → i < n + n → get_or tree 1 0 ≤ get_or tree i 0
  under zero i l h g = absurd (omega arith)
  under (suc d) i l h g = pick (dec_lt 1 i) (under d)
    where
      pick : Dec (1 < i) → ((i : ℕ) → i ≤ d → 0 < i → i < n + n → get_or tree 1 0 ≤ get_or tree i 0) → get_or tree 1 0 ≤ get_or tree i 0
      pick (yes z) f = omega (arith, f (i / 2) (omega arith) (omega arith) (omega arith), step i z g)
      pick (no z) f = let e : i ≡ 1 = omega arith in rw e (omega arith)

  -- what stands at a place stands at a leaf
  leaf_of : (d i : ℕ) → n + n ≤ i + d → 0 < i → i < n + n → (k : ℕ) × (k < n) × (get_or tree i 0 ≡ leaf n tree k)
  leaf_of zero i l h g = absurd (omega arith)
  leaf_of (suc d) i l h g = pick (dec_lt i n) (leaf_of d)
    where
      pick : Dec (i < n) → ((i : ℕ) → n + n ≤ i + d → 0 < i → i < n + n → (k : ℕ) × (k < n) × (get_or tree i 0 ≡ leaf n tree k)) → (k : ℕ) × (k < n) × (get_or tree i 0 ≡ leaf n tree k)
      pick (no z) f = let e : n + (i - n) ≡ i = omega arith in (i - n, omega arith, rw e refl)
      pick (yes z) f = ⊎_elim (λ e. let r = f (i + i) (omega arith) (omega arith) (omega arith) in (r.0, r.1, e ∙ r.2))
          (λ e. let r = f (i + i + 1) (omega arith) (omega arith) (omega arith) in (r.0, r.1, e ∙ r.2)) (T.inner i h z).either

  -- a number that is there is not below the root
  pub root_least : (k : ℕ) → k < n → leaf n tree k ≡ k → get_or tree 1 0 ≤ k
  root_least k h e = omega (arith, under (n + k) (n + k) (omega arith) (omega arith) (omega arith), e)

  -- a root that is a number is one that is there
  pub root_there : 0 < n → get_or tree 1 0 < 65535 → (get_or tree 1 0 < n) × (leaf n tree (get_or tree 1 0) ≡ get_or tree 1 0)
  root_there h g = let r = leaf_of (n + n) 1 (omega arith) (omega arith) (omega arith) in ⊎_elim
      (λ z. let q : get_or tree 1 0 ≡ r.0 = r.2 ∙ z in (omega (arith, r.1, q), rw q z))
      (λ z. absurd (omega (arith, r.2, z))) (T.leaves.leaves r.0 r.1)

  -- the root is a number or 65,535
  pub root_small : 0 < n → get_or tree 1 0 ≤ 65535
  root_small h = let r = leaf_of (n + n) 1 (omega arith) (omega arith) (omega arith) in
      ⊎_elim (λ z. omega (arith, r.1, r.2, z, T.leaves.few)) (λ z. omega (arith, r.2, z)) (T.leaves.leaves r.0 r.1)
