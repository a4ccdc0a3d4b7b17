-- The definitions of the record on small ones: each example computes.
use mathlib.Core.Path.{◌≡◌, refl}
use mathlib.Core.List.{List, [], ◌∷◌}
use Prim.Native.Nat.{ℕ}
use native.Mathlib.Omega.{arith}
use Rattle.ccsk.specs.Term.{Term, nil, pre, par, res, keys, size}
use Rattle.format.specs.Kinds.{length_of_body, count_of_children}
use Rattle.format.specs.Read.{Opened, kind_of, node, read, finish, decode, key_of, Reads, Refuses}
use Rattle.format.specs.Encode.{high, low, encode, depth, Fits, Bytes}
use Rattle.format.specs.Preorder.{shown, preorder}
use Rattle.format.specs.Flat.{encodes, keys_of, after, head_kind, head_key, Due, key_at}

-- a[258].0 | 0 under a restriction on b, and its bytes: 258 is 1 × 256 + 2
abbrev small : Term
small = res 2 (par (pre 1 258 nil) nil)

abbrev bytes : List ℕ
bytes = 4 ∷ (2 ∷ (3 ∷ (1 ∷ (1 ∷ (1 ∷ (2 ∷ (0 ∷ (0 ∷ []))))))))

-- a key's two bytes, and back
two_bytes : (high 258 ≡ 1) × (low 258 ≡ 2) × (key_of 1 2 ≡ 258)
two_bytes = (refl, refl, refl)

written : encode small ≡ bytes
unfolding encode
written = refl

was_read : Reads bytes small
unfolding decode read node kind_of finish
was_read = refl

-- bytes ended, an unknown kind, a cut body, action 128, bytes after the term
not_read : Refuses [] 1 × Refuses (5 ∷ []) 1 × Refuses (1 ∷ (1 ∷ (0 ∷ []))) 1 × Refuses (1 ∷ (128 ∷ (0 ∷ (0 ∷ (0 ∷ []))))) 1 × Refuses (0 ∷ (0 ∷ [])) 1
unfolding decode read node kind_of finish
not_read = (refl, refl, refl, refl, refl)

-- the limits come before the node: with no level left, and with no node left
past_a_limit : (finish (read 0 1 (0 ∷ [])) ≡ Opened.refused 2) × (finish (read 1 0 (0 ∷ [])) ≡ Opened.refused 2)
unfolding read finish
past_a_limit = (refl, refl)

its_depth : depth small ≡ 4
unfolding depth
its_depth = refl

it_fits : Fits small
unfolding depth size
it_fits = record { range = ((omega arith, omega arith), ((omega arith, (λ e. omega arith), omega arith, tt), tt)); deep = omega arith; nodes = omega arith }

all_bytes : Bytes (0 ∷ (255 ∷ []))
all_bytes = (omega arith, (omega arith, tt))

-- kind, body and depth of each node
its_nodes : preorder 1 small ≡ shown 4 (2 ∷ []) 1 ∷ (shown 3 [] 2 ∷ (shown 1 (1 ∷ (1 ∷ (2 ∷ []))) 3 ∷ (shown 0 [] 4 ∷ (shown 0 [] 3 ∷ []))))
unfolding preorder
its_nodes = refl

-- a prefix has three bytes of body and one child, a parallel none and two
table_of_kinds : (length_of_body 1 ≡ 3) × (count_of_children 1 ≡ 1) × (length_of_body 3 ≡ 0) × (count_of_children 3 ≡ 2)
table_of_kinds = (refl, refl, refl, refl)

-- at place 3 the prefix is due and then 0; after the prefix its child and that 0
due_inside : Due bytes 3 (pre 1 258 nil ∷ (nil ∷ []))
unfolding encodes encode
due_inside = refl

first_there : (head_kind (pre 1 258 nil ∷ (nil ∷ [])) ≡ 1) × (head_key (pre 1 258 nil ∷ (nil ∷ [])) ≡ 258) × (key_at bytes 3 ≡ 258) × (key_at bytes 2 ≡ 0)
unfolding head_kind head_key
first_there = (refl, refl, refl, refl)

due_next : (after (pre 1 258 nil ∷ (nil ∷ [])) ≡ nil ∷ (nil ∷ [])) × (keys_of (pre 1 258 nil ∷ (nil ∷ [])) ≡ 258 ∷ [])
unfolding after keys_of keys
due_next = (refl, refl)
