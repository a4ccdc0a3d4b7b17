use lib.ListN.{take}
use Rattle.cycles.specs.Pair.{firsts, seconds}
use Rattle.cycles.specs.Counters.{Counted}
use Rattle.cycles.proofs.count.Given as goal

abbrev pub invariant-loop-two : goal.invariant-loop-two
invariant-loop-two l = Counted (take l.two-index (firsts l.over)) (take l.two-index (seconds l.over)) l.initial.counters l.counters
