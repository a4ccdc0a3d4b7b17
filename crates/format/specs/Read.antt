-- Reading a record: bytes from the left, and the first offence decides (01, The record).
use Rattle.std.specs.Prelude.{◌≡◌, List, [], ◌∷◌, Bool, true, false, ℕ, zero, suc, ◌+◌, ◌*◌, eqb, leb}
use Rattle.ccsk.specs.Term.{Term, Key, nil, pre, cho, par, res}
use Rattle.format.specs.Limits.{node_limit, depth_limit}

-- What reading a term comes to: a refusal number, or the term, the bytes after it, and how many nodes may still come.
pub data Reading : Type 0 where
  refused : ℕ → Reading
  term : Term → List ℕ → ℕ → Reading

-- The kinds of a node, by the byte that stands first (01, The record, the table of kinds).
pub data Kind : Type 0 where
  nil-kind prefix-kind choice-kind parallel-kind restriction-kind no_kind : Kind

-- the kind that a byte names
unfoldable pub kind_of : ℕ → Kind
kind_of zero = nil-kind
kind_of (suc zero) = prefix-kind
kind_of (suc (suc zero)) = choice-kind
kind_of (suc (suc (suc zero))) = parallel-kind
kind_of (suc (suc (suc (suc zero)))) = restriction-kind
kind_of (suc (suc (suc (suc (suc b))))) = no_kind

-- a key from its high and its low byte
abbrev pub key_of : ℕ → ℕ → Key
key_of h l = h * 256 + l

-- go on with a term that was read, or keep the refusal
abbrev pub onward : Reading → (Term → List ℕ → ℕ → Reading) → Reading
onward (refused c) f = refused c
onward (term t s k) f = f t s k

-- refusal 1 where the test fails
abbrev pub provided : Bool → Reading → Reading
provided true r = r
provided false r = refused 1

abbrev pub unless : Bool → Reading → Reading
unless true r = refused 1
unless false r = r

-- one child, or two, under what the node makes of them; r reads a child
abbrev pub one_child : (Term → Term) → (ℕ → List ℕ → Reading) → ℕ → List ℕ → Reading
one_child f r k s = onward (r k s) (λ t s k. term (f t) s k)

abbrev pub two_children : (Term → Term → Term) → (ℕ → List ℕ → Reading) → ℕ → List ℕ → Reading
two_children f r k s = onward (r k s) (λ t s k. onward (r k s) (λ u s k. term (f t u) s k))

-- A node after its byte of kind: its body, the tests on the body, its children. k nodes may still come after this one.
-- Action 128 is refused, and so is a restriction name outside 1 to 127.
unfoldable pub node : Kind → (ℕ → List ℕ → Reading) → ℕ → List ℕ → Reading
node nil-kind r k s = term nil s k
node prefix-kind r k [] = refused 1
node prefix-kind r k (a ∷ []) = refused 1
node prefix-kind r k (a ∷ (h ∷ [])) = refused 1
node prefix-kind r k (a ∷ (h ∷ (l ∷ s))) = unless (eqb a 128) (one_child (pre a (key_of h l)) r k s)
node choice-kind r k s = two_children cho r k s
node parallel-kind r k s = two_children par r k s
node restriction-kind r k [] = refused 1
node restriction-kind r k (a ∷ s) = provided (leb 1 a) (provided (leb a 127) (one_child (res a) r k s))
node no_kind r k s = refused 1

-- A node that is due, with d levels and k nodes left: bytes ended, then the limits, then the node itself.
unfoldable pub read : ℕ → ℕ → List ℕ → Reading
read zero k [] = refused 1
read zero k (b ∷ s) = refused 2
read (suc d) zero [] = refused 1
read (suc d) zero (b ∷ s) = refused 2
read (suc d) (suc k) [] = refused 1
read (suc d) (suc k) (b ∷ s) = node (kind_of b) (read d) k s

-- What a whole record comes to: a refusal number or a term.
pub data Opened : Type 0 where
  refused : ℕ → Opened
  opened : Term → Opened

-- bytes after the whole term: refusal 1
unfoldable pub finish : Reading → Opened
finish (Reading.refused c) = Opened.refused c
finish (term t [] k) = opened t
finish (term t (b ∷ s) k) = Opened.refused 1

-- The record that the bytes are.
unfoldable pub decode : List ℕ → Opened
decode s = finish (read depth_limit node_limit s)

-- the bytes are the record of the term t
abbrev pub Reads : List ℕ → Term → Type 0
Reads s t = decode s ≡ opened t

-- the bytes are refused with the number c
abbrev pub Refuses : List ℕ → ℕ → Type 0
Refuses s c = decode s ≡ Opened.refused c
