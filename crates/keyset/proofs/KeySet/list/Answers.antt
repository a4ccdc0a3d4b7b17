-- `list` meets its contract: the front of the row holds the numbers of the bytes before i.
use native.Mathlib.Omega.{arith}
use Prim.Native.Nat.{◌+◌}
use Rattle.keyset.proofs.Listing.{none_listed, byte_passed, next_byte, all_listed}
use Rattle.keyset.proofs.KeySet.list.Goals as goal
use Rattle.keyset.proofs.KeySet.list.Goals.{then-self-i-ne0+else-m-n, else-self-i-ne0}

pub loop-i-init : goal.loop-i-init
loop-i-init c = none_listed c.args.self.now.bytes c.args.row.now

pub returns-then-m-n : goal.returns-then-m-n
returns-then-m-n c = all_listed c.args.self.now.bytes c.args.row.now (c.loop-i.i + 1) c.list_byte-m.result c.args.n c.list_byte-m.new.row (omega (arith, c.loop-i-test.true))
    (next_byte c.args.self.now.bytes c.args.row.now c.loop-i.i c.loop-i.m c.loop-i.row c.loop-i.invariant _ _ c.list_byte-m.ensures) c.requires.0 (omega (arith, c.if-m-n.true))

pub loop-i-preserved : goal.loop-i-preserved
loop-i-preserved c = elim c.if-self-i-ne0.branch [
  | then-self-i-ne0+else-m-n w ↦ rw (w.row-is, w.m-is) (next_byte c.args.self.now.bytes c.args.row.now c.loop-i.i c.loop-i.m c.loop-i.row c.loop-i.invariant _ _ w.list_byte-m.ensures)
  | else-self-i-ne0 w ↦ rw (w.row-is, w.m-is) (byte_passed c.args.self.now.bytes c.args.row.now c.loop-i.i c.loop-i.m c.loop-i.row c.loop-i.invariant w.if-self-i-ne0.false)
]
