use Prim.Native.Nat.{◌-◌}
use lib.ListN.{length}
use Rattle.keys.proofs.Passing.{Passed}
use Rattle.keys.proofs.scan.Given as goal

abbrev pub invariant-loop-at : goal.invariant-loop-at
invariant-loop-at l = Passed l.bytes l.marks.bytes l.at l.n

abbrev pub decreases-loop-at : goal.decreases-loop-at
decreases-loop-at l = length l.bytes - l.at
