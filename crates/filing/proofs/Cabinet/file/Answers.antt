-- `file` meets its contract: without an upper or a lower key nothing is written, and otherwise one place of each column.
use mathlib.Core.Logic.{inl, inr}
use native.Mathlib.Omega.{arith}
use Rattle.filing.specs.Cabinet.{none, one}
use Rattle.filing.proofs.Cabinet.file.Goals as goal
use Rattle.filing.proofs.Cabinet.file.Goals.{then-up-eq0-via-then-up-eq0, then-up-eq0-via-else-up-eq0+then-here-eq0}

pub returns-then-up-eq0 : goal.returns-then-up-eq0
returns-then-up-eq0 c = none (elim c.then-up-eq0.branch [
  | then-up-eq0-via-then-up-eq0 w ↦ inl w.if-up-eq0.true
  | then-up-eq0-via-else-up-eq0+then-here-eq0 w ↦ inr w.if-here-eq0.true
])

pub returns : goal.returns
returns c = rw c.drawer-at.ensures (one (omega (arith, c.if-up-eq0.false)) (omega (arith, c.if-here-eq0.false)))
