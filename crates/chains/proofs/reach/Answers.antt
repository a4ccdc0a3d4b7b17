-- `reach` meets its contract: before each turn the links from the first `head` keys of the queue were followed.
use mathlib.Core.Path.{refl}
use native.Mathlib.Omega.{arith}
use Rattle.chains.proofs.Rounds.{none_reached, first_round, next_from, next_round, closed}
use Rattle.chains.proofs.reach.Goals as goal

pub follow-requires-clause-reached : goal.follow-requires-clause-reached
follow-requires-clause-reached c = none_reached c.args.cabinet.now c.args.asked _ _ c.requires.holds refl refl

pub loop-head-init : goal.loop-head-init
loop-head-init c = first_round c.requires.filed c.follow.ensures

pub follow-requires-in-loop-head-clause-from : goal.follow-requires-in-loop-head-clause-from
follow-requires-in-loop-head-clause-from c = next_from c.loop-head.invariant c.loop-head-test.true

pub loop-head-preserved : goal.loop-head-preserved
loop-head-preserved c = next_round c.loop-head.invariant c.requires.filed c.loop-head-test.true c.follow-in-loop-head.ensures

pub returns : goal.returns
returns c = closed c.loop-head.invariant (λ h. omega (arith, h, c.loop-head-test.false))
