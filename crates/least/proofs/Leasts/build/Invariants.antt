use mathlib.Core.Path.{◌≡◌}
use Rattle.least.proofs.Steps.{Building}
use Rattle.least.proofs.Leasts.build.Given as goal

abbrev pub invariant-loop-at : goal.invariant-loop-at
invariant-loop-at g l = Building l.self.n l.initial.self.tree l.self.tree l.at × (l.self.n ≡ l.initial.self.n)
