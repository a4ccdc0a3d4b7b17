-- `mark` ends, since each call begins at a later node.
use Prim.Native.Nat.{◌-◌}
use Rattle.format.specs.Limits.{node_limit}
use Rattle.wanted.proofs.+mark.Given as goal

abbrev pub decreases-mark : goal.decreases-mark
decreases-mark l = node_limit - l.n
