-- `tally` meets its contract: each key's count among those before stands at its rank.
use native.Mathlib.Omega.{arith}
use lib.ListN.{length-set}
use Rattle.settle.proofs.Groups.{noted_member, counted_next}
use Rattle.settle.proofs.tally.Goals as goal

pub place-r-requires : goal.place-r-requires
place-r-requires c = (c.requires.counted.0, (noted_member c.args.keys.now c.args.ranking.now.set.now.bytes c.loop-key.key-index c.requires.counted.1 c.requires.counted.2 c.loop-key-test.true).1)

pub loop-key-preserved : goal.loop-key-preserved
loop-key-preserved c = let m = noted_member c.args.keys.now c.args.ranking.now.set.now.bytes c.loop-key.key-index c.requires.counted.1 c.requires.counted.2 c.loop-key-test.true in
    (simp length-set c.loop-key.invariant.0, counted_next c.args.ranking.now.set.now.bytes c.args.keys.now c.loop-key.key-index c.loop-key.states c.bump.result c.place-r.result c.loop-key-test.true m.1 m.0 c.place-r.ensures.0 (omega (arith, c.place-r.ensures.1, c.loop-key.invariant.0)) c.bump.ensures c.loop-key.invariant.1)
