-- What is shown of small records: each is computed.
use mathlib.Core.Path.{◌≡◌, refl}
use mathlib.Core.List.{List, [], ◌∷◌}
use Prim.Native.Nat.{ℕ}
use lib.ListN.{take, drop}
use Rattle.format.specs.Read.{decode, finish, read, node, kind_of}
use Rattle.format.specs.Preorder.{Shown, shown, preorder}
use Rattle.walker.specs.Shown.{nodes}

-- of node n of the bytes s
abbrev of_node : List ℕ → ℕ → List Shown
of_node s n = take 1 (drop n (nodes (decode s)))

-- the record of a[258].0, whose key has the bytes 1 and 2
abbrev done : List ℕ
done = 1 ∷ (1 ∷ (1 ∷ (2 ∷ (0 ∷ []))))

first_node : of_node done 0 ≡ shown 1 (1 ∷ (1 ∷ (2 ∷ []))) 1 ∷ []
unfolding decode finish read node kind_of preorder
first_node = refl

second_node : of_node done 1 ≡ shown 0 [] 2 ∷ []
unfolding decode finish read node kind_of preorder
second_node = refl

past_the_last : of_node done 2 ≡ []
unfolding decode finish read node kind_of preorder
past_the_last = refl

-- a byte after the whole term: the bytes are refused, and no node is shown
refused_bytes : of_node (0 ∷ (0 ∷ [])) 0 ≡ []
unfolding decode finish read node kind_of
refused_bytes = refl
