-- The leaves of the tree, and all that is ready when the first key is taken out.
use mathlib.Core.Path.{◌≡◌}
use mathlib.Core.Logic.{inl, inr, ⊎_elim}
use mathlib.Core.List.{List}
use Prim.Native.Nat.{ℕ, ◌+◌, ◌≤◌, ◌<◌}
use native.Mathlib.Omega.{arith}
use lib.ListN.{length, get_or}
use Rattle.format.specs.Limits.{node_limit}
use Rattle.least.specs.Tree.{leaf, Leaves}
use Rattle.order.specs.Setup.{LeafOf}

-- the first r leaves stand in the tree
pub record Planting (n : ℕ) (counts tree₀ tree : List ℕ) (r : ℕ) : Type 0 where
  pub size : length tree ≡ length tree₀
  pub leaves : (q : ℕ) → q < r → LeafOf (get_or counts q 0) q (leaf n tree q)

module _ (n : ℕ) (counts tree₀ tree : List ℕ) (r : ℕ) (P : Planting n counts tree₀ tree r) where
  module _ (h : n ≤ r) (f : n ≤ node_limit) (g : n + n ≤ length tree₀) (o : 0 < length tree₀) where
    pub all_leaves : Leaves n tree
    all_leaves = record { few = omega arith; some = omega (arith, P.size); long = omega (arith, P.size); leaves = λ k l. ⊎_elim (λ z. inl z.1) (λ z. inr z.1) (P.leaves k (omega arith)) }
