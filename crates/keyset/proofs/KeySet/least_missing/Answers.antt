-- `least_missing` meets its contract: it stands in the first byte with room.
use native.Mathlib.Omega.{arith}
use mathlib.Core.Path.{sym, ◌∙◌}
use Rattle.keyset.proofs.Least.{some_room, in_range, least}
use Rattle.keyset.proofs.KeySet.least_missing.Goals as goal

pub unwrap-i-requires : goal.unwrap-i-requires
unwrap-i-requires c = rw c.byte_with_room.ensures (some_room c.args.self.now.bytes (omega arith) c.requires)

pub overflow_add-result : goal.overflow_add-result
overflow_add-result c = record { fits = in_range c.args.self.now.bytes c.unwrap-i.result (sym c.byte_with_room.ensures ∙ c.unwrap-i.ensures) c.trailing_ones.result c.trailing_ones.ensures (omega arith) (omega arith) }

pub returns : goal.returns
returns c = least c.args.self.now.bytes c.unwrap-i.result (sym c.byte_with_room.ensures ∙ c.unwrap-i.ensures) c.trailing_ones.result c.trailing_ones.ensures (omega arith)
