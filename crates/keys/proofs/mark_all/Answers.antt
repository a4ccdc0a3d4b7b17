-- `mark_all` meets its contract: the keys before this one are in the set, and counted.
use native.Mathlib.Omega.{arith}
use Prim.Native.Nat.{◌+◌}
use Rattle.keyset.proofs.Sets.{gain_few}
use Rattle.keys.proofs.Marks.{front_none, front_more, front_few}
use Rattle.keys.proofs.mark_all.Goals as goal

pub loop-key-init : goal.loop-key-init
loop-key-init c = front_none c.args.column.now c.args.marks.now.bytes c.requires

pub overflow_add-n : goal.overflow_add-n
overflow_add-n c = omega (arith, front_few c.args.column.now c.loop-key.key-index _ _ c.loop-key.invariant, gain_few c.add-n.ensures)

pub loop-key-preserved : goal.loop-key-preserved
loop-key-preserved c = front_more c.args.column.now c.loop-key.key-index c.loop-key.marks.bytes c.loop-key.n c.loop-key-test.true (c.type_inv.column c.loop-key.key-index).fits _ c.add-n.result c.add-n.ensures c.loop-key.invariant
