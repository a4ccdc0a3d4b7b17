use mathlib.Core.Bool.{true}
use Prim.Native.Nat.{◌-◌}
use lib.ListN.{length}
use Rattle.keys.proofs.Passing.{Passed}
use Rattle.keys.proofs.Clearing as clearing
use Rattle.keys.proofs.wipe.Given as goal

abbrev pub invariant-loop-at : goal.invariant-loop-at
invariant-loop-at l = Passed l.initial.bytes l.marks.bytes l.at l.n × clearing.Clearing (λ k. true) l.initial.bytes l.bytes l.at

abbrev pub decreases-loop-at : goal.decreases-loop-at
decreases-loop-at l = length l.bytes - l.at
