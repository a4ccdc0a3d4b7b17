use Rattle.cycles.specs.Queue.{Queued}
use Rattle.cycles.proofs.gather.Given as goal

abbrev pub invariant-loop-k : goal.invariant-loop-k
invariant-loop-k l = Queued l.k l.counters l.queue l.tail
