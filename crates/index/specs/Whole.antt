-- The rows of a record as the program holds them, and those of a whole record.
use Rattle.std.specs.Prelude.{◌≡◌, List, ℕ, Result, Ok, Err}
use Rattle.ccsk.specs.Term.{Term, Node, size}
use Rattle.format.specs.Read.{Reads, Refuses}
use Rattle.format.specs.Encode.{Fits}
use Rattle.offers.specs.Forms.{Laid, Part}
use Rattle.shared.specs.declared.Refusal.{Refusal}
use Rattle.shared.specs.Refusal.{number}
use Rattle.index.specs.declared.Form.{Form}
use Rattle.index.specs.declared.Form.TheVariants.{Nothing, Own, Next, Second, Either, Both, Hidden}
use Rattle.index.specs.declared.Rows.{Rows}

-- the number of a form (Forms)
abbrev pub number_of : Form → ℕ
number_of Nothing = 0
number_of Own = 1
number_of Next = 2
number_of Second = 3
number_of Either = 4
number_of Both = 5
number_of Hidden = 6

-- the term t is the part that begins at node n of the rows
abbrev pub PartAt : Rows → Node → Term → Type 0
PartAt R n t = Part R.forms R.args R.ends n t

-- some part begins at node n of the rows
abbrev pub SomePartAt : Rows → Node → Type 0
SomePartAt R n = (t : Term) × PartAt R n t

-- The rows are those of the term t, which has n nodes.
pub record RowsOf (t : Term) (n : ℕ) (R : Rows) : Type 0 where
  pub fits : Fits t
  pub count : n ≡ size t
  pub lines : Laid R.forms R.args R.ends 0 t

-- what `index` answers
abbrev pub Indexes : List ℕ → Rows → Result ℕ Refusal → Type 0
Indexes s R (Err r) = Refuses s (number r)
Indexes s R (Ok n) = (t : Term) × Reads s t × RowsOf t n R
