use mathlib.Core.Path.{◌≡◌}
use lib.ListN.{length}
use Rattle.rank.proofs.Steps.{Passed}
use Rattle.rank.proofs.fill.Given as goal

abbrev pub invariant-loop-i : goal.invariant-loop-i
invariant-loop-i l = (length l.base ≡ 8192) × Passed l.set.bytes l.base l.i l.n
