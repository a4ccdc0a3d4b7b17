use mathlib.Core.List.{[]}
use Prim.Native.Nat.{◌-◌}
use lib.ListN.{length}
use Rattle.cycles.specs.Pair.{firsts, seconds}
use Rattle.cycles.proofs.Rounds.{State}
use Rattle.cycles.proofs.peel.Given as goal

abbrev pub invariant-loop-head : goal.invariant-loop-head
invariant-loop-head l = State (firsts l.over) (seconds l.over) l.counters l.queue l.head l.tail []

abbrev pub decreases-loop-head : goal.decreases-loop-head
decreases-loop-head l = length l.over - l.head
