-- What a plan answers, and what it does to the bytes.
use Rattle.std.specs.Prelude.{◌≡◌, ◌≢◌, List, ℕ, ◌+◌, ◌<◌, ◌/◌, ◌%◌, set, length, Option, Some, None, Result, Ok, Err}
use Rattle.ccsk.specs.Term.{Key, Node}
use Rattle.operations.specs.Change.{ForwardStep, UndoStep}
use Rattle.shared.specs.declared.Refusal.{Refusal}
use Rattle.shared.specs.declared.Refusal.TheVariants.{NoPlaces}
use Rattle.shared.specs.Refusal.{number}
use Rattle.findings.specs.declared.Places.{Places}
use Rattle.findings.specs.declared.Places.TheVariants.{One, Two}
use Rattle.plans.specs.declared.Plan.{Plan}

-- the key m in the prefix whose bytes begin at the position i
abbrev pub put : Key → List ℕ → ℕ → List ℕ
put m s i = set (set s (i + 2) (m / 256)) (i + 3) (m % 256)

-- the same at the second place, if there is one
abbrev pub put_second : Key → List ℕ → Option ℕ → List ℕ
put_second m s None = s
put_second m s (Some j) = put m s j

-- the bytes after the plan is carried out with the key m
abbrev pub carried : Key → Plan → List ℕ → List ℕ
carried m plan s = put_second m (put m s plan.first) plan.second

-- the second place, if there is one, stands within n bytes
abbrev pub SecondInside : ℕ → Option ℕ → Type 0
SecondInside n None = Unit {0}
SecondInside n (Some j) = j + 3 < n

-- the places of the plan stand within n bytes
abbrev pub Inside : ℕ → Plan → Type 0
Inside n plan = (plan.first + 3 < n) × SecondInside n plan.second

-- what `plan_forward` answers: a refusal of the forward step, or what it does
abbrev pub ForwardPlan : List ℕ → Node → Node → Key → Result Plan Refusal → Type 0
ForwardPlan s p q m (Err r) = ForwardStep s p q m (number r) 0 s
ForwardPlan s p q m (Ok plan) = Inside (length s) plan × ForwardStep s p q m 0 plan.label (carried m plan s)

-- what `plan_undo` answers: a refusal of the undo, or what it does
abbrev pub UndoPlan : List ℕ → Key → Result Plan Refusal → Type 0
UndoPlan s m (Err r) = UndoStep s m (number r) 0 s
UndoPlan s m (Ok plan) = Inside (length s) plan × UndoStep s m 0 plan.label (carried 0 plan s)

-- the places of a forward step at p, or at p and q if q is not 0: what was found has so many, and q comes after p
abbrev pub Asked : Places → Node → Node → Result (ℕ × Option ℕ) Refusal → Type 0
Asked found p q (Ok (i, None)) = (q ≡ 0) × (found ≡ One i)
Asked found p q (Ok (i, Some j)) = (p < q) × (found ≡ Two i j)
Asked found p q (Err r) = (r ≡ NoPlaces) × ((i : ℕ) → q ≡ 0 → found ≢ One i) × ((i j : ℕ) → p < q → found ≢ Two i j)
