-- What one function packs: the answer of an operation, whatever it is refused with, if that stands for a number of 8 bits.
use Rattle.std.specs.Prelude.{◌≡◌, ℕ, Option, Some, None, Result, Ok, Err}
use Rattle.ccsk.specs.Term.{Label}
use Rattle.search.specs.declared.Step.{Step}
use Rattle.packing.specs.Packed.{step_answer, answer}

-- The answer of a step is packed as a; N says for which number an error stands.
abbrev pub PacksStep : {E : Type 0} → (E → ℕ → Type 0) → Result Label E → ℕ → Type 0
PacksStep N (Err e) a = (c : ℕ) × N e c × (a ≡ step_answer c 0)
PacksStep N (Ok label) a = a ≡ step_answer 0 label

-- the same of an answer that is a number
abbrev pub PacksNumber : {E : Type 0} → (E → ℕ → Type 0) → Result ℕ E → ℕ → Type 0
PacksNumber N (Err e) a = (c : ℕ) × N e c × (a ≡ answer c 0 0 0 0)
PacksNumber N (Ok n) a = a ≡ answer 0 0 0 0 n

-- and of the answer of the search for a step
abbrev pub PacksFirst : {E : Type 0} → (E → ℕ → Type 0) → Result (Option Step) E → ℕ → Type 0
PacksFirst N (Err e) a = (c : ℕ) × N e c × (a ≡ answer c 0 0 0 0)
PacksFirst N (Ok None) a = a ≡ answer 0 0 0 0 0
PacksFirst N (Ok (Some s)) a = a ≡ answer 0 1 s.label s.p s.q
