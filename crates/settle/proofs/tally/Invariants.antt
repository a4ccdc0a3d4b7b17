use mathlib.Core.Path.{◌≡◌}
use lib.ListN.{length, take}
use Rattle.format.specs.Limits.{node_limit}
use Rattle.settle.specs.Group.{Counted}
use Rattle.settle.proofs.tally.Given as goal

abbrev pub invariant-loop-key : goal.invariant-loop-key
invariant-loop-key l = (length l.states ≡ node_limit) × Counted l.ranking.set.now.bytes (take l.key-index l.keys) l.states
