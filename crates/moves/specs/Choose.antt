-- The prefixes that a step is asked of: by node number for a forward step, by key for an undo.
use Rattle.std.specs.Prelude.{List, [], ◌++◌, Bool, ◌||◌, ℕ, zero, suc, ◌+◌, eqb, length}
use Rattle.ccsk.specs.Term.{Term, Key, Node, nil, pre, cho, par, res, size, tick}
use Rattle.ccsk.specs.Place.{shift}
use Rattle.format.specs.Encode.{encode}

-- forward: node n is p, or it is q and q is not 0
abbrev pub forward_choice : Node → Node → Node → Key → Bool
forward_choice p zero n k = eqb n p
forward_choice p (suc q) n k = eqb n p || eqb n (suc q)

-- undo: the prefix holds m
abbrev pub undo_choice : Key → Node → Key → Bool
undo_choice m n k = eqb m k

-- The chosen prefixes of a term whose root is node n, as node numbers counted from that root.
unfoldable pub chosen : (Node → Key → Bool) → Node → Term → List Node
chosen c n nil = []
chosen c n (pre a k t) = tick (c n k) 0 (shift 1 (chosen c (n + 1) t))
chosen c n (cho t u) = shift 1 (chosen c (n + 1) t) ++ shift (1 + size t) (chosen c (n + 1 + size t) u)
chosen c n (par t u) = shift 1 (chosen c (n + 1) t) ++ shift (1 + size t) (chosen c (n + 1 + size t) u)
chosen c n (res a t) = shift 1 (chosen c (n + 1) t)

-- Where their bytes begin, if the term's first byte stands at the position i.
unfoldable pub spots : (Node → Key → Bool) → ℕ → Node → Term → List ℕ
spots c i n nil = []
spots c i n (pre a k t) = tick (c n k) i (spots c (i + 4) (n + 1) t)
spots c i n (cho t u) = spots c (i + 1) (n + 1) t ++ spots c (i + 1 + length (encode t)) (n + 1 + size t) u
spots c i n (par t u) = spots c (i + 1) (n + 1) t ++ spots c (i + 1 + length (encode t)) (n + 1 + size t) u
spots c i n (res a t) = spots c (i + 2) (n + 1) t
