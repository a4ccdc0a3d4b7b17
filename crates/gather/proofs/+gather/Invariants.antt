use Rattle.gather.proofs.+gather.Given as goal

abbrev pub decreases-gather : goal.decreases-gather
decreases-gather l = l.deep
