-- `take_linked` meets its contract: the keys that are reached are put in order, and the record is left without them.
use native.Mathlib.Omega.{arith}
use Rattle.keys.proofs.Marks.{holds_none}
use Rattle.linked.proofs.Linked.{sortable, taken_back, too_short}
use Rattle.linked.proofs.take_linked.Goals as goal

pub reach-waits-requires-clause-holds : goal.reach-waits-requires-clause-holds
reach-waits-requires-clause-holds c = rw c.new-set.ensures holds_none

pub returns-then-row-waits-clause-takes_back : goal.returns-then-row-waits-clause-takes_back
returns-then-row-waits-clause-takes_back c = too_short _ _ _ _ c.requires _ _ c.reach-waits.ensures c.ranges.key.fits c.args.row.now c.if-row-waits.true

pub order-requires-clause-sortable : goal.order-requires-clause-sortable
order-requires-clause-sortable c = sortable _ _ _ _ c.requires _ _ c.reach-waits.ensures

pub returns-clause-takes_back : goal.returns-clause-takes_back
returns-clause-takes_back c = taken_back _ _ _ _ c.requires _ _ c.reach-waits.ensures c.args.row.now _ c.order.ensures.sorted (omega (arith, c.if-row-waits.false)) _ _ c.add.ensures c.ranges.key.fits _ c.erase.ensures
