-- The steps of the verdict: from a record whose first two conditions hold, over its columns, to the verdict.
use Rattle.std.specs.Prelude.{◌≡◌, List, true, ℕ, ◌+◌, ◌≤◌, length}
use Rattle.ccsk.specs.Term.{Term}
use Rattle.format.specs.Limits.{node_limit}
use Rattle.causes.specs.Tests.{waits, chosen, Tested}
use Rattle.keys.specs.Gather.{RecordOf}
use Rattle.cycles.specs.declared.Pair.{Pair}
use Rattle.cycles.specs.Pair.{firsts, seconds}
use Rattle.pairs.specs.declared.Columns.{Columns}
use Rattle.pairs.specs.Answer.{Zero}
use Rattle.verdict.specs.Laid.{Laid}

-- the conditions 1 and 2 hold of the term
pub record Begun (t : Term) : Type 0 where
  pub waiting : waits t ≡ true
  pub choosing : chosen t ≡ true

-- the record is that of a term of which the conditions 1 and 2 hold
abbrev pub Fair : List ℕ → Type 0
Fair s = (t : Term) × RecordOf s t × Begun t

-- r is the verdict of such a term
abbrev pub Judged : List ℕ → ℕ → Type 0
Judged s r = (t : Term) → RecordOf s t → Begun t → Tested t r

-- the columns of the term are laid out, under small names for its keys
abbrev pub LaidIn : Term → ℕ → Columns → Type 0
LaidIn t n x = Laid t n x.keys.now x.actions.now x.ends.now x.scopes.now x.ups.now

-- such a term is laid out in the columns
abbrev pub Slotted : ℕ → Columns → Type 0
Slotted n x = (length x.keys.now ≤ node_limit) × (n ≤ node_limit + 1) × ((t : Term) × LaidIn t n x × Begun t)

-- r is its verdict
abbrev pub Decided : ℕ → Columns → ℕ → Type 0
Decided n x r = (t : Term) → LaidIn t n x → Begun t → Tested t r

-- room for the numbers of all keys, and nothing noted yet
pub record Room (rows : List Pair) (counters queue : ℕ) : Type 0 where
  pub first_zero : Zero (firsts rows)
  pub second_zero : Zero (seconds rows)
  pub counted : counters ≡ length rows
  pub queued : length rows ≤ queue
