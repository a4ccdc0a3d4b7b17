use Prim.Native.Nat.{◌-◌}
use lib.ListN.{length}
use Rattle.labels.proofs.Gathering.{Passed}
use Rattle.labels.proofs.undo_labels.Given as goal

abbrev pub invariant-loop-at : goal.invariant-loop-at
invariant-loop-at l = Passed l.bytes l.row l.labels l.at

abbrev pub decreases-loop-at : goal.decreases-loop-at
decreases-loop-at l = length l.bytes - l.at
