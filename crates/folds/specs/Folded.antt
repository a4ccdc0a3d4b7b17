-- What the pass for the conditions 1 and 2 answers, against the reading of the record.
use Rattle.std.specs.Prelude.{◌≡◌, List, ℕ, Result, Ok, Err}
use Rattle.ccsk.specs.Term.{Term}
use Rattle.format.specs.Read.{Reads, Refuses}
use Rattle.shared.specs.declared.Refusal.{Refusal}
use Rattle.shared.specs.Refusal.{number}
use Rattle.causes.specs.Tests.{holds, waits, chosen}
use Rattle.folds.specs.declared.Marks.{Marks}

-- the marks are those of the term t
pub record MarksOf (t : Term) (m : Marks) : Type 0 where
  pub held : m.holds ≡ holds t
  pub first : m.waits ≡ waits t
  pub second : m.chosen ≡ chosen t

-- the whole record
abbrev pub Looked : List ℕ → Result Marks Refusal → Type 0
Looked s (Err r) = Refuses s (number r)
Looked s (Ok m) = (t : Term) × Reads s t × MarksOf t m
