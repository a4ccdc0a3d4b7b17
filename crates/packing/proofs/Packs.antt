-- The packed answers: how an answer that fits is packed; and where only one answer fits a promise, only one fits packed.
use mathlib.Core.Path.{◌≡◌, refl}
use mathlib.Core.List.{List}
use Prim.Native.Nat.{ℕ}
use Rattle.std.specs.Prelude.{Option, Some, None, Result, Ok, Err}
use Rattle.ccsk.specs.Term.{Label, Node}
use Rattle.shared.specs.declared.Refusal.{Refusal}
use Rattle.shared.specs.Refusal.{number, refusal, value}
use Rattle.search.specs.declared.Step.{Step}
use Rattle.search.specs.First.{found, first_place, second_place, label}
use Rattle.packing.specs.Packs.{PacksStep, PacksNumber, PacksFirst}
use Rattle.packing.specs.Packed.{step_answer, answer, PackedStep, PackedNumber, PackedLent, PackedBoth, PackedFirst, PackedStep.packed, PackedNumber.packed, PackedLent.packed, PackedBoth.packed, PackedFirst.packed}

pub pack_step : {P : ℕ → Label → List ℕ → Type 0} (r c l : ℕ) (b : List ℕ) → r ≡ step_answer c l → P c l b → PackedStep P r b
pack_step r c l b e f = rw e (packed f)

pub pack_number : {P : ℕ → ℕ → Type 0} (r c n : ℕ) → r ≡ answer c 0 0 0 n → P c n → PackedNumber P r
pack_number r c n e f = rw e (packed f)

pub pack_lent : {P : ℕ → ℕ → List ℕ → Type 0} (r c n : ℕ) (b : List ℕ) → r ≡ answer c 0 0 0 n → P c n b → PackedLent P r b
pack_lent r c n b e f = rw e (packed f)

pub pack_both : {P : ℕ → ℕ → List ℕ → List ℕ → Type 0} (r c n : ℕ) (b row : List ℕ) → r ≡ answer c 0 0 0 n → P c n b row → PackedBoth P r b row
pack_both r c n b row e f = rw e (packed f)

pub pack_first : {P : ℕ → ℕ → Node → Node → Label → Type 0} (r c n p q l : ℕ) → r ≡ answer c n l p q → P c n p q l → PackedFirst P r
pack_first r c n p q l e f = rw e (packed f)

-- a refusal stands for its number
abbrev pub Numbered : Refusal → ℕ → Type 0
Numbered r c = c ≡ number r

-- an operation's answer as it is packed, by its refusal number and its values
pub step_told : (given : Result Label Refusal) (r : ℕ) → PacksStep Numbered given r → r ≡ step_answer (refusal given) (value given)
step_told (Ok l) r e = e
step_told (Err x) r e = rw (e.2, e.1) refl

pub number_told : (given : Result ℕ Refusal) (r : ℕ) → PacksNumber Numbered given r → r ≡ answer (refusal given) 0 0 0 (value given)
number_told (Ok n) r e = e
number_told (Err x) r e = rw (e.2, e.1) refl

pub first_told : (given : Result (Option Step) Refusal) (r : ℕ) → PacksFirst Numbered given r
    → r ≡ answer (refusal given) (found given) (label given) (first_place given) (second_place given)
first_told (Ok None) r e = e
first_told (Ok (Some s)) r e = e
first_told (Err x) r e = rw (e.2, e.1) refl

-- a promise that only one answer fits, or only one with one record or row afterwards
abbrev pub OnlyNumber : (ℕ → ℕ → Type 0) → Type 0
OnlyNumber P = (c c' n n' : ℕ) → P c n → P c' n' → (c ≡ c') × (n ≡ n')

abbrev pub OnlyOne : (ℕ → ℕ → List ℕ → Type 0) → Type 0
OnlyOne P = (c c' n n' : ℕ) (b b' : List ℕ) → P c n b → P c' n' b' → (c ≡ c') × (n ≡ n') × (b ≡ b')

pub packed_step_once : {P : ℕ → Label → List ℕ → Type 0} {r r' : ℕ} {b b' : List ℕ} → OnlyOne P → PackedStep P r b → PackedStep P r' b' → (r ≡ r') × (b ≡ b')
packed_step_once o (packed f) (packed g) = let e = o _ _ _ _ _ _ f g in (rw (e.0, e.1), e.2)

pub packed_lent_once : {P : ℕ → ℕ → List ℕ → Type 0} {r r' : ℕ} {b b' : List ℕ} → OnlyOne P → PackedLent P r b → PackedLent P r' b' → (r ≡ r') × (b ≡ b')
packed_lent_once o (packed f) (packed g) = let e = o _ _ _ _ _ _ f g in (rw (e.0, e.1), e.2)

pub packed_number_once : {P : ℕ → ℕ → Type 0} {r r' : ℕ} → OnlyNumber P → PackedNumber P r → PackedNumber P r' → r ≡ r'
packed_number_once o (packed f) (packed g) = let e = o _ _ _ _ f g in rw (e.0, e.1)
