use Prim.Native.Nat.{◌-◌}
use Rattle.format.specs.Limits.{node_limit}
use Rattle.index.proofs.Noting.{Noting}
use Rattle.index.proofs.Rows.note_all.Given as goal

abbrev pub invariant-loop-many : goal.invariant-loop-many
invariant-loop-many l = Noting l.bytes l.self.forms l.self.args l.holds l.due l.many l.at l.count

abbrev pub decreases-loop-many : goal.decreases-loop-many
decreases-loop-many l = node_limit - l.count
