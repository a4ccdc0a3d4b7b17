-- What a pass over a record answers, against the reading of the record.
use Rattle.std.specs.Prelude.{List, ℕ, ◌-◌, Result, Ok, Err}
use Rattle.ccsk.specs.Term.{Term, Node}
use Rattle.format.specs.Limits.{node_limit}
use Rattle.format.specs.Read.{Reads, Refuses}
use Rattle.shared.specs.declared.Refusal.{Refusal}
use Rattle.shared.specs.Refusal.{number}
use Rattle.reader.specs.Walk.{Stops, Walks}
use Rattle.passes.specs.declared.Done.{Done}

-- at the place `at` of s, with d levels and k nodes left: reading is refused, or it gives a term with this part
abbrev pub Passed : {P : Type 0} → (ℕ → Node → Term → P → Type 0) → List ℕ → ℕ → ℕ → ℕ → Result (Done P) Refusal → Type 0
Passed fits s at d k (Err r) = Stops s at d k (number r)
Passed fits s at d k (Ok r) = (t : Term) × Walks s at d k t r.next r.left × fits at (node_limit - k) t r.part

-- the whole record: it is refused, or this is its part
abbrev pub Whole : {P : Type 0} → (ℕ → Node → Term → P → Type 0) → List ℕ → Result P Refusal → Type 0
Whole fits s (Err r) = Refuses s (number r)
Whole fits s (Ok p) = (t : Term) × Reads s t × fits 0 0 t p
