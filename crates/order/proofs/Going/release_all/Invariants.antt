use mathlib.Core.Path.{◌≡◌}
use mathlib.Core.List.{List}
use Prim.Native.Nat.{ℕ}
use lib.ListN.{get_or}
use Rattle.order.specs.Steps.{Scene, Taken}
use Rattle.order.proofs.Going.release_all.Given as goal

abbrev pub invariant-loop-link : goal.invariant-loop-link
invariant-loop-link l =
    (l.self.free.n ≡ l.initial.self.free.n) × ((c : Scene l.initial.self.free.n l.numbered.keys l.cabinet.upper l.cabinet.older l.numbered.heads) (out : List ℕ) → Taken c out l.r (get_or l.numbered.heads l.r 0) l.initial.self.counters l.initial.self.free.tree → Taken c out l.r l.link l.self.counters l.self.free.tree)

abbrev pub decreases-loop-link : goal.decreases-loop-link
decreases-loop-link l = l.link
