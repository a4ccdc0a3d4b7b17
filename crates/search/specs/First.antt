-- The mark and the values of each answer of the search (01, Operations: first forward step).
use Rattle.std.specs.Prelude.{◌≡◌, ◌↔◌, List, ℕ, ◌<◌, length, get_or, Option, Some, None, Result, Ok, Err}
use Rattle.ccsk.specs.Term.{Term, Label, Node}
use Rattle.operations.specs.Order.{FirstFrom, NoFreeStep}
use Rattle.offers.specs.Offers.{Wanted}
use Rattle.shared.specs.declared.Refusal.{Refusal}
use Rattle.index.specs.declared.Rows.{Rows}
use Rattle.index.specs.Whole.{RowsOf}
use Rattle.search.specs.declared.Step.{Step}

-- the mark: 1 where there is a step
abbrev pub found : Result (Option Step) Refusal → ℕ
found (Err r) = 0
found (Ok None) = 0
found (Ok (Some s)) = 1

abbrev pub first_place : Result (Option Step) Refusal → Node
first_place (Err r) = 0
first_place (Ok None) = 0
first_place (Ok (Some s)) = s.p

abbrev pub second_place : Result (Option Step) Refusal → Node
second_place (Err r) = 0
second_place (Ok None) = 0
second_place (Ok (Some s)) = s.q

abbrev pub label : Result (Option Step) Refusal → Label
label (Err r) = 0
label (Ok None) = 0
label (Ok (Some s)) = s.label

-- the first step of the term t at or after (p, q), or none
abbrev pub NextOf : Term → Node → Node → Option Step → Type 0
NextOf t p q None = NoFreeStep t p q
NextOf t p q (Some s) = FirstFrom t p q s.p s.q s.label

-- The rows are those of the term t, and of its nodes those are marked that step alone or together with a later one.
pub record Ready (t : Term) (R : Rows) (M : List ℕ) : Type 0 where
  pub rows : RowsOf t (length M) R
  pub marked : (i : Node) → (get_or M i 0 ≡ 1) ↔ Wanted (λ l. l < 256) t i

-- the rows and marks are those of some term
abbrev pub SomeReady : Rows → List ℕ → Type 0
SomeReady R M = (t : Term) × Ready t R M

-- whichever term's they are
abbrev pub Next : Rows → List ℕ → Node → Node → Option Step → Type 0
Next R M p q r = (t : Term) → Ready t R M → NextOf t p q r
