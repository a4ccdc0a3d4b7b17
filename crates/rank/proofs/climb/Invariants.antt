use mathlib.Core.Path.{◌≡◌}
use Rattle.rank.specs.Rank.{rank}
use Rattle.rank.proofs.climb.Given as goal

abbrev pub invariant-loop-k : goal.invariant-loop-k
invariant-loop-k l = l.r ≡ rank l.set.bytes l.k
