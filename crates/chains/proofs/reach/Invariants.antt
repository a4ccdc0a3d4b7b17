use Prim.Native.Nat.{suc, ◌-◌}
use Rattle.format.specs.Limits.{node_limit}
use Rattle.chains.proofs.Rounds.{Round}
use Rattle.chains.proofs.reach.Given as goal

abbrev pub invariant-loop-head : goal.invariant-loop-head
invariant-loop-head l = Round l.cabinet l.asked l.set.bytes l.queue l.head

abbrev pub decreases-loop-head : goal.decreases-loop-head
decreases-loop-head l = suc node_limit - l.head
