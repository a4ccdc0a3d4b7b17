use mathlib.Core.Path.{◌≡◌}
use mathlib.Core.List.{[]}
use Rattle.order.proofs.Peeling.{Peeling}
use Rattle.order.specs.Steps.{Scene, State}
use Rattle.order.proofs.Going.peel.Given as goal

abbrev pub invariant-loop-out : goal.invariant-loop-out
invariant-loop-out l =
    (l.self.free.n ≡ l.initial.self.free.n) × ((c : Scene l.initial.self.free.n l.numbered.keys l.cabinet.upper l.cabinet.older l.numbered.heads) → State c [] l.initial.self.counters l.initial.self.free.tree → Peeling c l.initial.row l.row l.self.counters l.self.free.tree l.out)
