-- The verdict of the whole record, and the numbers of refusals.
use mathlib.Core.Path.{◌≡◌, sym, ◌∙◌}
use mathlib.Core.List.{List}
use mathlib.Core.Bool.{true, false}
use Prim.Native.Nat.{ℕ, ◌<◌}
use native.Mathlib.Omega.{arith}
use Rattle.ccsk.specs.Term.{Term}
use Rattle.format.specs.Read.{Reads}
use Rattle.format.specs.Encode.{Bytes}
use Rattle.format.proofs.Unique.{encode-decode}
use Rattle.std.specs.Prelude.{Ok}
use Rattle.shared.specs.declared.Refusal.{Refusal}
use Rattle.shared.specs.declared.Refusal.TheVariants.{NoRecord, OverLimit, KeyZero, NoPlaces, KeyStands, NoStep, KeyAbsent, NoUndo, ShortRow, NotSound}
use Rattle.shared.specs.Refusal.{number}
use Rattle.causes.specs.Tests.{first_fails, second_fails}
use Rattle.causes.proofs.Verdict.{tested_verdict}
use Rattle.operations.specs.Ask.{Soundness, done}
use Rattle.folds.specs.declared.Marks.{Marks}
use Rattle.folds.specs.Folded.{Looked}
use Rattle.keys.specs.Gather.{RecordOf}
use Rattle.judge.specs.Judge.{Begun, Fair, Judged}

-- no refusal has the number 0, so that an answer with refusal 0 is a verdict
pub number_above : (r : Refusal) → 0 < number r
number_above NoRecord = omega arith
number_above OverLimit = omega arith
number_above KeyZero = omega arith
number_above NoPlaces = omega arith
number_above KeyStands = omega arith
number_above NoStep = omega arith
number_above KeyAbsent = omega arith
number_above NoUndo = omega arith
number_above ShortRow = omega arith
number_above NotSound = omega arith

module _ (s : List ℕ) (b : Bytes s) (m : Marks) (L : Looked s (Ok m)) where
  record_of : (t : Term) → Reads s t → RecordOf s t
  record_of t e = let w = encode-decode s t b e in record { reads = e; bytes = w.0; fits = w.1 }

  -- condition 1 fails
  pub first_verdict : m.waits ≡ false → Soundness s 0 1
  first_verdict z = done L.1 (tested_verdict (first_fails (sym L.2.first ∙ z)))

  module _ (p : m.waits ≡ true) where
    -- condition 2 fails
    pub second_verdict : m.chosen ≡ false → Soundness s 0 2
    second_verdict z = done L.1 (tested_verdict (second_fails (sym L.2.first ∙ p) (sym L.2.second ∙ z)))

    module _ (q : m.chosen ≡ true) where
      begun : Begun L.0
      begun = record { waiting = sym L.2.first ∙ p; choosing = sym L.2.second ∙ q }

      pub fair : Fair s
      fair = (L.0, record_of L.0 L.1, begun)

      -- one of the others fails, or none
      pub last_verdict : (v : ℕ) → Judged s v → Soundness s 0 v
      last_verdict v J = done L.1 (tested_verdict (J L.0 (record_of L.0 L.1) begun))
