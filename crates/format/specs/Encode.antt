-- Writing a term as a record, and which terms a record can hold (01, The record).
use Rattle.std.specs.Prelude.{◌≢◌, List, [], ◌∷◌, ◌++◌, ℕ, suc, ◌≤◌, ◌<◌, ◌/◌, ◌%◌, max}
use Rattle.ccsk.specs.Term.{Term, Key, nil, pre, cho, par, res, Channel, size}
use Rattle.format.specs.Limits.{node_limit, depth_limit}

-- the high and the low byte of a key
abbrev pub high : Key → ℕ
high k = k / 256

abbrev pub low : Key → ℕ
low k = k % 256

-- The record of a term: in preorder, each node one byte of kind, then its body, then its children.
unfoldable pub encode : Term → List ℕ
encode nil = 0 ∷ []
encode (pre a k t) = 1 ∷ (a ∷ (high k ∷ (low k ∷ encode t)))
encode (cho t u) = 2 ∷ (encode t ++ encode u)
encode (par t u) = 3 ∷ (encode t ++ encode u)
encode (res a t) = 4 ∷ (a ∷ encode t)

-- the depth of the deepest node; the root has depth 1
unfoldable pub depth : Term → ℕ
depth nil = 1
depth (pre a k t) = suc (depth t)
depth (cho t u) = suc (max (depth t) (depth u))
depth (par t u) = suc (max (depth t) (depth u))
depth (res a t) = suc (depth t)

-- every action, key and restriction name is one that the record's bytes can hold
abbrev pub InRange : Term → Type 0
InRange nil = Unit {0}
InRange (pre a k t) = (a ≤ 255) × (a ≢ 128) × (k ≤ 65535) × InRange t
InRange (cho t u) = InRange t × InRange u
InRange (par t u) = InRange t × InRange u
InRange (res a t) = Channel a × InRange t

-- a term within the limits
pub record Fits (t : Term) : Type 0 where
  pub range : InRange t
  pub deep : depth t ≤ depth_limit
  pub nodes : size t ≤ node_limit

-- every number of the list is a byte
abbrev pub Bytes : List ℕ → Type 0
Bytes [] = Unit {0}
Bytes (b ∷ s) = (b < 256) × Bytes s
