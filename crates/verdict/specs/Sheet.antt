-- What the tests on columns ask of the columns and of the room that is lent to them, and what they answer.
use Rattle.std.specs.Prelude.{◌≡◌, ◌⊎◌, ◌↔◌, List, Bool, true, ℕ, ◌+◌, ◌≤◌, ◌<◌, length, get_or, Option, Some}
use Rattle.causes.specs.Columns.{Below}
use Rattle.cycles.specs.declared.Pair.{Pair}
use Rattle.cycles.specs.Pair.{firsts, seconds}
use Rattle.cycles.specs.Graph.{Acyclic}
use Rattle.pairs.specs.declared.Columns.{Columns}
use Rattle.pairs.specs.declared.Condition.{Condition}
use Rattle.pairs.specs.declared.Condition.TheVariants.{Twice}
use Rattle.pairs.specs.Rows.{rows_of, Indexed}
use Rattle.pairs.specs.Cause.{CauseBelow}
use Rattle.pairs.specs.Answer.{Zero, Climbed}

-- columns of the same length, whose keys have a place in the list of rows; nothing is noted yet
pub record Blank (x : Columns) (rows : List Pair) : Type 0 where
  pub keys_below : Below (length rows) x.keys.now
  pub few : length x.keys.now < 65535
  pub actions : length x.actions.now ≡ length x.keys.now
  pub ends : length x.ends.now ≡ length x.keys.now
  pub scopes : length x.scopes.now ≡ length x.keys.now
  pub first_zero : Zero (firsts rows)
  pub second_zero : Zero (seconds rows)

-- a key stands in three rows, or all rows are noted and c is the lowest of the conditions 4 to 6 that fails, if any does
abbrev pub Pairing : Columns → List Pair → Option Condition → Type 0
Pairing x rows c = ((c ≡ Some Twice) × (k : ℕ) × (2 < length (rows_of k 0 x.keys.now)))
    ⊎ (Indexed x.keys.now (firsts rows) (seconds rows) × CauseBelow (length rows) x.actions.now x.ends.now x.scopes.now (firsts rows) (seconds rows) c)

-- rows that lie in the column of keys right above, which are below the number of rows' lists; nothing is noted for 0
pub record Noted (us first second : List ℕ) : Type 0 where
  pub alike : length second ≡ length first
  pub some : 0 < length first
  pub few : length first ≤ 32767
  pub ups_below : Below (length first) us
  pub first_inside : Below (length us + 1) first
  pub second_inside : Below (length us + 1) second
  pub first_root : get_or first 0 0 ≡ 0
  pub second_root : get_or second 0 0 ≡ 0

-- each noted row has become the key right above it, and the answer tells whether these have no cycle
pub record Ordering (us first second one two : List ℕ) (r : Bool) : Type 0 where
  pub once : Climbed us first one
  pub twice : Climbed us second two
  pub tells : (r ≡ true) ↔ Acyclic one two
