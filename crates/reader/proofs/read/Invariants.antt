use Rattle.reader.specs.Due.{Remains}
use Rattle.reader.proofs.read.Given as goal

abbrev pub invariant-loop-many : goal.invariant-loop-many
invariant-loop-many l = Remains l.bytes l.due l.many l.left l.at

abbrev pub decreases-loop-many : goal.decreases-loop-many
decreases-loop-many l = l.left
