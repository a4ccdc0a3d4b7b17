use mathlib.Core.Path.{◌≡◌}
use mathlib.Core.List.{List}
use Prim.Native.Nat.{ℕ, ◌≤◌}
use Rattle.ccsk.specs.Term.{Term}
use Rattle.format.specs.Limits.{node_limit}
use Rattle.index.specs.Lines.{Noted}
use Rattle.index.proofs.Settling.{Settling}
use Rattle.index.proofs.Rows.settle.Given as goal

abbrev pub invariant-loop-i : goal.invariant-loop-i
invariant-loop-i l = record {
  few : l.i ≤ node_limit;
  args : l.self.args ≡ l.initial.self.args;
  settling : (t : Term) (A : List ℕ) → Noted t l.n l.initial.self.forms A l.initial.holds → Settling t A l.n l.self.forms l.self.ends l.holds l.i l.end l.held;
}
