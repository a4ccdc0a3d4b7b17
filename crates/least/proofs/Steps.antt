-- The tree from place to place.
use mathlib.Core.Path.{◌≡◌}
use mathlib.Core.Logic.{◌≢◌}
use mathlib.Core.List.{List}
use Prim.Native.Nat.{ℕ, ◌+◌, ◌/◌, ◌≤◌, ◌<◌}
use native.Mathlib.Omega.{arith}
use lib.ListN.{length, get_or, set, length-set}
use lib.Seq.{get_or-set_same, get_or-set_other}
use Rattle.least.specs.Tree.{leaf, Leaves, Holds, Tree}

-- a place that is not written, nor one below it, holds what it held
holds_other : (tree : List ℕ) (i at v : ℕ) → i ≢ at → i + i ≢ at → i + i + 1 ≢ at → Holds tree i → Holds (set tree at v) i
holds_other tree i at v a b c H = rw (get_or-set_other tree at i v 0 a, get_or-set_other tree at (i + i) v 0 b, get_or-set_other tree at (i + i + 1) v 0 c) H

-- from place `at` on the tree is built; no leaf has changed since it was tree₀
pub record Building (n : ℕ) (tree₀ tree : List ℕ) (at : ℕ) : Type 0 where
  pub size : length tree ≡ length tree₀
  pub leaves : Leaves n tree
  pub low : at ≤ n
  pub inner : (i : ℕ) → 0 < i → at ≤ i → i < n → Holds tree i
  pub kept : (k : ℕ) → k < n → leaf n tree k ≡ leaf n tree₀ k

-- place 0 belongs to no tree
pub tree_outside : (n : ℕ) (tree : List ℕ) (v : ℕ) → Tree n tree → Tree n (set tree 0 v)
tree_outside n tree v T = record {
  leaves = record {
    few = T.leaves.few;
    some = omega (arith, length-set tree 0 v, T.leaves.some);
    long = omega (arith, length-set tree 0 v, T.leaves.long);
    leaves = λ k h. rw (get_or-set_other tree 0 (n + k) v 0 (λ e. omega arith)) (T.leaves.leaves k h);
  };
  inner = λ i h g. holds_other tree i 0 v (λ e. omega arith) (λ e. omega arith) (λ e. omega arith) (T.inner i h g);
}

pub leaf_outside : (n : ℕ) (tree : List ℕ) (v k : ℕ) → k < n → leaf n (set tree 0 v) k ≡ leaf n tree k
leaf_outside n tree v k h = get_or-set_other tree 0 (n + k) v 0 (λ e. omega arith)

pub set_outside : (tree : List ℕ) (v : ℕ) → 0 < length tree → get_or (set tree 0 v) 0 0 ≡ v
set_outside tree v h = get_or-set_same tree 0 v 0 h

-- v was written to place `at`, and only the place above it may be wrong
pub record Rising (n k w : ℕ) (tree₀ tree : List ℕ) (at v : ℕ) : Type 0 where
  pub size : length tree ≡ length tree₀
  pub leaves : Leaves n tree
  pub low : at < n + n
  pub some : 0 < at
  pub here : get_or tree at 0 ≡ v
  pub inner : (i : ℕ) → 0 < i → i < n → i ≢ at / 2 → Holds tree i
  pub zero : get_or tree 0 0 ≡ get_or tree₀ 0 0
  pub put : leaf n tree k ≡ w
  pub kept : (j : ℕ) → j < n → j ≢ k → leaf n tree j ≡ leaf n tree₀ j
