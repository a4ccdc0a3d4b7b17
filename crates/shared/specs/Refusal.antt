-- Why an operation is refused, and the answers of operations (01, Operations and their refusals).
use Rattle.std.specs.Prelude.{ℕ, Result, Ok, Err}
use Rattle.shared.specs.declared.Refusal.{Refusal}
use Rattle.shared.specs.declared.Refusal.TheVariants.{NoRecord, OverLimit, KeyZero, NoPlaces, KeyStands, NoStep, KeyAbsent, NoUndo, ShortRow, NotSound}

-- the number of a refusal
abbrev pub number : Refusal → ℕ
number NoRecord = 1
number OverLimit = 2
number KeyZero = 3
number NoPlaces = 4
number KeyStands = 5
number NoStep = 6
number KeyAbsent = 7
number NoUndo = 8
number ShortRow = 9
number NotSound = 13

-- the refusal number of an answer; 0 where the operation is not refused
abbrev pub refusal : {A : Type 0} → Result A Refusal → ℕ
refusal (Ok x) = 0
refusal (Err r) = number r

-- an answer that is a number; 0 where the operation is refused
abbrev pub value : Result ℕ Refusal → ℕ
value (Ok n) = n
value (Err r) = 0
