-- The places of a step, and writing a key at a node.
use Rattle.std.specs.Prelude.{◌≡◌, List, [], ◌∷◌, ◌++◌, cond, ℕ, zero, suc, ◌+◌, ◌-◌, ltb}
use Rattle.ccsk.specs.Term.{Term, Label, Key, Node, nil, pre, cho, par, res, size}
use Rattle.ccsk.specs.Step.{Forward}

-- every number n higher
unfoldable pub shift : ℕ → List Node → List Node
shift n [] = []
shift n (p ∷ l) = (n + p) ∷ shift n l

-- The node numbers of the prefixes that make a step, ascending: one, or two that are joined (01, Rules of a step).
unfoldable pub places : {t u : Term} {m : Key} {l : Label} → Forward t m l u → List Node
places (Forward.top h s) = 0 ∷ []
places (Forward.prefix h n d) = shift 1 (places d)
places (Forward.choice₁ s d) = shift 1 (places d)
places (Forward.choice₂ {t = t} s d) = shift (1 + size t) (places d)
places (Forward.par₁ f d) = shift 1 (places d)
places (Forward.par₂ {t = t} f d) = shift (1 + size t) (places d)
places (Forward.synch {t = t} c d e) = shift 1 (places d) ++ shift (1 + size t) (places e)
places (Forward.restrict f d) = shift 1 (places d)

-- a forward step with the key m at the places x, with its label and the term afterwards
abbrev pub ForwardAt : Term → Key → List Node → Type 0
ForwardAt t m x = (l : Label) × (u : Term) × (d : Forward t m l u) × (places d ≡ x)

-- The term with the key m at node p; unchanged where that is no prefix (01, Operations: each place's two key bytes become the key).
unfoldable pub mark : Key → Node → Term → Term
mark m p nil = nil
mark m zero (pre a k t) = pre a m t
mark m (suc p) (pre a k t) = pre a k (mark m p t)
mark m zero (cho t u) = cho t u
mark m (suc p) (cho t u) = cond (ltb p (size t)) (cho (mark m p t) u) (cho t (mark m (p - size t) u))
mark m zero (par t u) = par t u
mark m (suc p) (par t u) = cond (ltb p (size t)) (par (mark m p t) u) (par t (mark m (p - size t) u))
mark m zero (res a t) = res a t
mark m (suc p) (res a t) = res a (mark m p t)

-- at each of several nodes
unfoldable pub marks : Key → List Node → Term → Term
marks m [] t = t
marks m (p ∷ l) t = marks m l (mark m p t)

-- Node p is a prefix (01, refusal 4).
abbrev pub IsPrefix : Node → Term → Type 0
IsPrefix p nil = ⊥
IsPrefix zero (pre a k t) = Unit {0}
IsPrefix (suc p) (pre a k t) = IsPrefix p t
IsPrefix zero (cho t u) = ⊥
IsPrefix (suc p) (cho t u) = cond (ltb p (size t)) (IsPrefix p t) (IsPrefix (p - size t) u)
IsPrefix zero (par t u) = ⊥
IsPrefix (suc p) (par t u) = cond (ltb p (size t)) (IsPrefix p t) (IsPrefix (p - size t) u)
IsPrefix zero (res a t) = ⊥
IsPrefix (suc p) (res a t) = IsPrefix p t
