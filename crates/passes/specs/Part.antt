-- The part that a pass makes of a node, from the parts of its children. `fits i n t p` says that p is the part of the term t, whose root
-- is node n and whose bytes begin at the place i.
use Rattle.std.specs.Prelude.{Bool, true, false, ℕ, ◌+◌, length}
use Rattle.ccsk.specs.Term.{Term, Name, Label, Key, Node, pre, cho, par, res, size}
use Rattle.format.specs.Encode.{encode}

-- a parallel or a choice
abbrev pub two : Bool → Term → Term → Term
two true t u = par t u
two false t u = cho t u

module _ {P : Type 0} (fits : ℕ → Node → Term → P → Type 0) where
  -- r is the part of a prefix, if `below` is that of its child
  abbrev pub OverPrefix : ℕ → Node → Label → Key → P → P → Type 0
  OverPrefix i n a k below r = (t : Term) → fits (i + 4) (n + 1) t below → fits i n (pre a k t) r

  -- the same of a restriction
  abbrev pub OverRestriction : Name → P → P → Type 0
  OverRestriction a below r = (i n : ℕ) (t : Term) → fits (i + 2) (n + 1) t below → fits i n (res a t) r

  -- the same of a parallel or a choice
  abbrev pub OverTwo : Bool → P → P → P → Type 0
  OverTwo b left right r = (i n : ℕ) (t u : Term) → fits (i + 1) (n + 1) t left
      → fits (i + 1 + length (encode t)) (n + 1 + size t) u right → fits i n (two b t u) r
