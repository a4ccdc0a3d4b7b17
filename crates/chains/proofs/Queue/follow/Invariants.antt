use Rattle.chains.proofs.Walking.{Walking}
use Rattle.chains.proofs.Queue.follow.Given as goal

abbrev pub invariant-loop-link : goal.invariant-loop-link
invariant-loop-link l = Walking l.cabinet l.asked l.from l.initial.set.bytes l.initial.self l.set.bytes l.self l.link

abbrev pub decreases-loop-link : goal.decreases-loop-link
decreases-loop-link l = l.link
