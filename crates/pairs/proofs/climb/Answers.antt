-- `climb` meets its contract: the rows before the loop's have become the keys right above them.
use Rattle.pairs.proofs.Climbing.{inside, climb_next}
use Rattle.pairs.proofs.climb.Goals as goal

pub above-two-requires : goal.above-two-requires
above-two-requires c = (inside c.args.ups.now c.args.rows.now c.loop-two.two-items c.loop-two.two-index c.loop-two.auto.two-items c.loop-two-test.true c.requires c.loop-two.invariant.firsts c.loop-two.invariant.seconds).0

pub above-two-requires-in-loop-two : goal.above-two-requires-in-loop-two
above-two-requires-in-loop-two c = (inside c.args.ups.now c.args.rows.now c.loop-two.two-items c.loop-two.two-index c.loop-two.auto.two-items c.loop-two-test.true c.requires c.loop-two.invariant.firsts c.loop-two.invariant.seconds).1

pub loop-two-preserved : goal.loop-two-preserved
loop-two-preserved c = let h = climb_next c.args.ups.now c.args.rows.now c.loop-two.two-items c.loop-two.two-index c.loop-two.auto.two-items (record { first = c.above-two.result; second = c.above-two-in-loop-two.result }) c.loop-two-test.true c.above-two.ensures c.above-two-in-loop-two.ensures c.loop-two.invariant.firsts c.loop-two.invariant.seconds in record { firsts = h.0; seconds = h.1 }
