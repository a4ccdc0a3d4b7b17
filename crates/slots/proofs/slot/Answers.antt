-- `slot` meets its contract: 0 stays 0, and a key becomes one more than its rank.
use native.Mathlib.Omega.{arith}
use Rattle.rank.proofs.Ranks.{rank_ordered}
use Rattle.slots.proofs.Slots.{slot-zero, slot_key}
use Rattle.slots.proofs.slot.Goals as goal

pub overflow_add-result : goal.overflow_add-result
overflow_add-result c = omega (arith, c.rank.ensures, rank_ordered c.args.ranks.now.set.now.bytes c.args.key 65536 (omega arith), c.requires.few)

pub overflow_cast-result : goal.overflow_cast-result
overflow_cast-result c = omega (arith, c.rank.ensures, rank_ordered c.args.ranks.now.set.now.bytes c.args.key 65536 (omega arith), c.requires.few)

pub returns-then-key-eq-NOT_DONE : goal.returns-then-key-eq-NOT_DONE
returns-then-key-eq-NOT_DONE c = slot-zero c.args.ranks.now.set.now.bytes c.args.key c.if-key-eq-NOT_DONE.true

pub returns-else-key-eq-NOT_DONE : goal.returns-else-key-eq-NOT_DONE
returns-else-key-eq-NOT_DONE c = slot_key c.args.ranks.now.set.now.bytes c.args.key c.rank.result c.if-key-eq-NOT_DONE.false c.rank.ensures
