-- One node without its children, as `node_at` finds it, against the reading of a record.
use Rattle.std.specs.Prelude.{◌≡◌, List, ℕ, ◌<◌, ◌≤◌, ◌+◌, length, drop, get_or, Result, Ok, Err}
use Rattle.ccsk.specs.Term.{nil, pre, cho, par, res}
pub use Rattle.format.specs.Kinds.{count_of_children}
use Rattle.format.specs.Kinds.{length_of_body}
use Rattle.format.specs.Read.{Reading, refused, term, Kind, nil-kind, prefix-kind, choice-kind, parallel-kind, restriction-kind, no_kind, kind_of, key_of, node, one_child, two_children}
use Rattle.shared.specs.declared.Refusal.{Refusal}
use Rattle.shared.specs.Refusal.{number}
use Rattle.reader.specs.declared.Head.{Head}
use Rattle.reader.specs.Kind.{byte_of}

-- how many bytes a body has, by kind
abbrev pub body : ℕ → ℕ
body = length_of_body

-- A good node with its byte of kind at the place `at` of s: what is made of its children. r reads a child, s' are the bytes after the body.
unfoldable pub under : Kind → List ℕ → ℕ → (ℕ → List ℕ → Reading) → ℕ → List ℕ → Reading
under nil-kind s at r k s' = term nil s' k
under prefix-kind s at r k s' = one_child (pre (get_or s (at + 1) 0) (key_of (get_or s (at + 2) 0) (get_or s (at + 3) 0))) r k s'
under choice-kind s at r k s' = two_children cho r k s'
under parallel-kind s at r k s' = two_children par r k s'
under restriction-kind s at r k s' = one_child (res (get_or s (at + 1) 0)) r k s'
under no_kind s at r k s' = refused 1

-- At the place `at` of s stands a good node: its kind, how many children it has, and where its body ends.
pub record NodeAt (s : List ℕ) (at kind children next : ℕ) : Type 0 where
  pub byte : kind ≡ get_or s at 0
  pub known : kind ≤ 4
  pub count : children ≡ count_of_children kind
  pub ends : next ≡ at + 1 + body kind
  pub within : next ≤ length s
  pub shape : (r : ℕ → List ℕ → Reading) (k : ℕ) → node (kind_of kind) r k (drop (at + 1) s) ≡ under (kind_of kind) s at r k (drop next s)

-- No good node stands at the place `at` of s: reading it is refused with 1, whatever its children.
abbrev pub NoNodeAt : List ℕ → ℕ → Type 0
NoNodeAt s at = (r : ℕ → List ℕ → Reading) (k : ℕ) → node (kind_of (get_or s at 0)) r k (drop (at + 1) s) ≡ refused 1

-- a byte stands at the place `at` of s, and says that the node there is of this kind
abbrev pub KindAt : ℕ → List ℕ → ℕ → Type 0
KindAt kind s at = (at < length s) × (kind ≡ get_or s at 0)

-- what `node_at` answers
abbrev pub Headed : List ℕ → ℕ → Result Head Refusal → Type 0
Headed s at (Err r) = (number r ≡ 1) × NoNodeAt s at
Headed s at (Ok h) = NodeAt s at (byte_of h.kind) h.children h.next
