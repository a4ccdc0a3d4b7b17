-- A node's answer: its kind is known, and what is answered of small records.
use mathlib.Core.Path.{◌≡◌, refl}
use mathlib.Core.List.{[], ◌∷◌}
use Prim.Native.Nat.{◌≤◌}
use Rattle.std.specs.Prelude.{Option, Some}
use Rattle.format.specs.Preorder.{shown}
use Rattle.reader.specs.Kind.{byte_of}
use Rattle.reader.proofs.KindBytes.{byte_known}
use Rattle.cursor.specs.declared.Shown.{Shown}
use Rattle.packing.specs.Packed.{node_answer}

-- the kind of a node that is shown is one of the five
pub known_kind : (r : Option Shown) (n : Shown) → r ≡ Some n → byte_of n.kind ≤ 4
known_kind r n e = byte_known n.kind

-- the root of a[258].0: kind 1, the mark, action 1, key 258 with the bytes 1 and 2, depth 1; and nothing shown of refused bytes
root_packed : node_answer 0 (shown 1 (1 ∷ (1 ∷ (2 ∷ []))) 1 ∷ []) ≡ 72058697861431297
root_packed = refl

refusal_packed : node_answer 1 [] ≡ 281474976710656
refusal_packed = refl
