use Rattle.passes.proofs.Over.+part_at.Given as goal

abbrev pub decreases-part_at : goal.decreases-part_at
decreases-part_at g l = l.deep
