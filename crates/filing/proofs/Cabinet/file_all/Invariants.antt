use Rattle.filing.proofs.Filling.{Passing}
use Rattle.filing.proofs.Cabinet.file_all.Given as goal

abbrev pub invariant-loop-many : goal.invariant-loop-many
invariant-loop-many l = Passing l.bytes l.key l.self l.due l.ups l.many l.left l.at l.links l.met

abbrev pub decreases-loop-many : goal.decreases-loop-many
decreases-loop-many l = l.left
