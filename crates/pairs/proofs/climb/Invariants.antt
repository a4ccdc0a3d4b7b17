use Rattle.cycles.specs.Pair.{firsts, seconds}
use Rattle.pairs.proofs.Climbing.{Climbing}
use Rattle.pairs.proofs.climb.Given as goal

abbrev pub invariant-loop-two : goal.invariant-loop-two
invariant-loop-two l = record { firsts : Climbing l.ups (firsts l.initial.two-items) (firsts l.two-items) l.two-index; seconds : Climbing l.ups (seconds l.initial.two-items) (seconds l.two-items) l.two-index }
