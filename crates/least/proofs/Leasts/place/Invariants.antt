use mathlib.Core.Path.{◌≡◌}
use Rattle.least.proofs.Steps.{Rising}
use Rattle.least.proofs.Leasts.place.Given as goal

abbrev pub invariant-loop-at : goal.invariant-loop-at
invariant-loop-at g l = Rising l.initial.self.n l.k l.value l.initial.self.tree l.self.tree l.at l.least × (l.self.n ≡ l.initial.self.n)

abbrev pub decreases-loop-at : goal.decreases-loop-at
decreases-loop-at g l = l.at
