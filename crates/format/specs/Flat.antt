-- A record without recursion: the terms that are due at a place, one after the other, and what is due after their first node.
use Rattle.std.specs.Prelude.{◌≡◌, cond, List, [], ◌∷◌, ◌++◌, ℕ, ◌+◌, eqb, get_or, drop}
use Rattle.ccsk.specs.Term.{Term, Key, nil, pre, cho, par, res, keys}
use Rattle.format.specs.Read.{key_of}
use Rattle.format.specs.Encode.{encode}

-- the record of several terms, one after the other
unfoldable pub encodes : List Term → List ℕ
encodes [] = []
encodes (t ∷ ts) = encode t ++ encodes ts

-- the keys of several terms, from the left
unfoldable pub keys_of : List Term → List Key
keys_of [] = []
keys_of (t ∷ ts) = keys t ++ keys_of ts

-- the terms that are due after the first node: its children stand first
unfoldable pub after : List Term → List Term
after [] = []
after (nil ∷ ts) = ts
after (pre a k t ∷ ts) = t ∷ ts
after (cho t u ∷ ts) = t ∷ (u ∷ ts)
after (par t u ∷ ts) = t ∷ (u ∷ ts)
after (res a t ∷ ts) = t ∷ ts

-- the kind and the key of the first node; its key is 0 if it is no prefix
unfoldable pub head_kind : List Term → ℕ
head_kind [] = 0
head_kind (nil ∷ ts) = 0
head_kind (pre a k t ∷ ts) = 1
head_kind (cho t u ∷ ts) = 2
head_kind (par t u ∷ ts) = 3
head_kind (res a t ∷ ts) = 4

unfoldable pub head_key : List Term → Key
head_key [] = 0
head_key (nil ∷ ts) = 0
head_key (pre a k t ∷ ts) = k
head_key (cho t u ∷ ts) = 0
head_key (par t u ∷ ts) = 0
head_key (res a t ∷ ts) = 0

-- the action or the name of the first node; 0 if it has neither
unfoldable pub head_arg : List Term → ℕ
head_arg [] = 0
head_arg (nil ∷ ts) = 0
head_arg (pre a k t ∷ ts) = a
head_arg (cho t u ∷ ts) = 0
head_arg (par t u ∷ ts) = 0
head_arg (res a t ∷ ts) = a

-- From the place `at` on, the bytes s are the record of the terms ts.
abbrev pub Due : List ℕ → ℕ → List Term → Type 0
Due s at ts = drop at s ≡ encodes ts

-- the key of the node at a place, by its bytes; 0 if it is no prefix
abbrev pub key_at : List ℕ → ℕ → Key
key_at s at = cond (eqb (get_or s at 0) 1) (key_of (get_or s (at + 2) 0) (get_or s (at + 3) 0)) 0
