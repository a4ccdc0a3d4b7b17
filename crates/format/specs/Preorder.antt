-- The nodes of a term in preorder, as a walk shows them (01, The record: kind, body and depth of each node).
use Rattle.std.specs.Prelude.{List, [], ◌∷◌, ◌++◌, ℕ, suc}
use Rattle.ccsk.specs.Term.{Term, nil, pre, cho, par, res}
use Rattle.format.specs.Encode.{high, low}

-- what is shown of a node: its kind, the bytes of its body, its depth
pub data Shown : Type 0 where
  shown : ℕ → List ℕ → ℕ → Shown

-- the nodes of a term whose root has the depth d; node number n stands at place n of the list
unfoldable pub preorder : ℕ → Term → List Shown
preorder d nil = shown 0 [] d ∷ []
preorder d (pre a k t) = shown 1 (a ∷ (high k ∷ (low k ∷ []))) d ∷ preorder (suc d) t
preorder d (cho t u) = shown 2 [] d ∷ (preorder (suc d) t ++ preorder (suc d) u)
preorder d (par t u) = shown 3 [] d ∷ (preorder (suc d) t ++ preorder (suc d) u)
preorder d (res a t) = shown 4 (a ∷ []) d ∷ preorder (suc d) t
