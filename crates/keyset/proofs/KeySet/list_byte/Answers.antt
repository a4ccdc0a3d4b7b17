-- `list_byte` meets its contract: bit by bit the front of the row grows, by the laws of Listing.
use native.Mathlib.Omega.{arith}
use Rattle.keyset.proofs.Listing.{room_left, bit_there, bit_absent, few_places}
use Rattle.keyset.proofs.KeySet.list_byte.Goals as goal
use Rattle.keyset.proofs.KeySet.list_byte.Goals.{then-has_bit, else-has_bit}

pub offset_bounds-row-n : goal.offset_bounds-row-n
offset_bounds-row-n c = omega (arith, few_places c.args.self.now.bytes c.args.row.now c.args.i c.args.m c.loop-j.j c.loop-j.n c.loop-j.row c.loop-j.invariant c.requires.from.0)

pub bounds-row-n : goal.bounds-row-n
bounds-row-n c = room_left c.args.self.now.bytes c.args.row.now c.args.i c.args.m c.loop-j.j c.loop-j.n c.loop-j.row c.loop-j.invariant c.loop-j-test.true c.has_bit.result c.has_bit.ensures c.if-has_bit.true c.requires.from.0 c.requires.long

pub overflow_add-n : goal.overflow_add-n
overflow_add-n c = omega (arith, few_places c.args.self.now.bytes c.args.row.now c.args.i c.args.m c.loop-j.j c.loop-j.n c.loop-j.row c.loop-j.invariant c.requires.from.0)

pub loop-j-preserved : goal.loop-j-preserved
loop-j-preserved c = elim c.if-has_bit.branch [
  | then-has_bit w ↦ let l = room_left c.args.self.now.bytes c.args.row.now c.args.i c.args.m c.loop-j.j c.loop-j.n c.loop-j.row c.loop-j.invariant c.loop-j-test.true c.has_bit.result c.has_bit.ensures w.if-has_bit.true c.requires.from.0 c.requires.long in
      rw (w.row-is, w.n-is) (bit_there c.args.self.now.bytes c.args.row.now c.args.i c.args.m c.loop-j.j c.loop-j.n c.loop-j.row c.loop-j.invariant c.loop-j-test.true c.has_bit.result c.has_bit.ensures w.if-has_bit.true l)
  | else-has_bit w ↦ rw (w.row-is, w.n-is) (bit_absent c.args.self.now.bytes c.args.row.now c.args.i c.args.m c.loop-j.j c.loop-j.n c.loop-j.row c.loop-j.invariant c.loop-j-test.true c.has_bit.result c.has_bit.ensures w.if-has_bit.false)
]
