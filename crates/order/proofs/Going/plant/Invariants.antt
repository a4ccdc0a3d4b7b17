use mathlib.Core.Path.{◌≡◌}
use Rattle.order.proofs.Planting.{Planting}
use Rattle.order.proofs.Going.plant.Given as goal

abbrev pub invariant-loop-r : goal.invariant-loop-r
invariant-loop-r l =
    (l.self.free.n ≡ l.initial.self.free.n) × (l.self.counters ≡ l.initial.self.counters) × Planting l.n l.initial.self.counters l.initial.self.free.tree l.self.free.tree l.r
