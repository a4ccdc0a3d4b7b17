use Rattle.std.proofs.Common.{◌≡◌}
use Rattle.walker.specs.Shown.{GoesOn}
use Rattle.walker.proofs.Walker.onward.Given as goal

abbrev pub invariant-loop : goal.invariant-loop
invariant-loop l = (l.self.«record» ≡ l.initial.self.«record») × GoesOn l.initial.self.«record».now l.initial.self.cursor l.counter l.self.cursor
