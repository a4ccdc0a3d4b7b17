-- What the answers of the tests say, once their case is known, and what the next test asks.
use mathlib.Core.Path.{◌≡◌, subst}
use mathlib.Core.Logic.{inr}
use mathlib.Core.List.{List}
use mathlib.Core.Bool.{Bool, true}
use lib.ListN.{length}
use Rattle.std.specs.Prelude.{Option}
use Rattle.cycles.specs.declared.Pair.{Pair}
use Rattle.cycles.specs.Pair.{firsts, seconds}
use Rattle.pairs.specs.declared.Columns.{Columns}
use Rattle.pairs.specs.declared.Condition.{Condition}
use Rattle.pairs.specs.Rows.{Indexed}
use Rattle.pairs.specs.Cause.{EachPlaced, CauseBelow}
use Rattle.pairs.specs.Answer.{Index}
use Rattle.pairs.proofs.Tables.{each_placed}
use Rattle.verdict.specs.Sheet.{Blank, Pairing}

module _ (x : Columns) (rows₀ rows : List Pair) (b : Blank x rows₀) (r : Bool) (i : Index x.keys.now (firsts rows) (seconds rows) r) (e : r ≡ true) where
  indexed : Indexed x.keys.now (firsts rows) (seconds rows)
  indexed = subst (Index x.keys.now (firsts rows) (seconds rows)) e i

  -- the causes may be looked for
  pub causes_asked : EachPlaced (length x.actions.now) (firsts rows) (seconds rows)
  causes_asked = rw b.actions (each_placed x.keys.now (firsts rows) (seconds rows) indexed)

  pub all_noted : (c : Option Condition) → CauseBelow (length rows) x.actions.now x.ends.now x.scopes.now (firsts rows) (seconds rows) c → Pairing x rows c
  all_noted c g = inr (indexed, g)
