-- Forms against their numbers, and a node of two parts.
use mathlib.Core.Path.{◌≡◌, refl, sym, ap, ◌∙◌}
use mathlib.Core.List.{List}
use mathlib.Core.Logic.{◌⊎◌, inl, inr, ⊎_elim, ◌≢◌}
use Prim.Native.Nat.{ℕ, zero, suc, ◌+◌, ◌<◌, ◌≤◌, min}
use native.Mathlib.Omega.{arith}
use lib.ListN.{get_or}
use Rattle.ccsk.specs.Term.{Term, Node}
use Rattle.offers.proofs.Forms as part
use Rattle.offers.proofs.Forms.{nothing, own, next, second, either, both, hidden, form, part_below, part_beyond}
use Rattle.index.specs.declared.Rows.{Rows}
use Rattle.index.specs.declared.Form.{Form}
use Rattle.index.specs.declared.Form.TheVariants.{Nothing, Own, Next, Second, Either, Both, Hidden}
use Rattle.index.specs.Whole.{number_of, SomePartAt}

-- the form with a number
unfoldable with_number : ℕ → Form
with_number zero = Nothing
with_number (suc zero) = Own
with_number (suc (suc zero)) = Next
with_number (suc (suc (suc zero))) = Second
with_number (suc (suc (suc (suc zero)))) = Either
with_number (suc (suc (suc (suc (suc zero))))) = Both
with_number (suc (suc (suc (suc (suc (suc n)))))) = Hidden

with_number_of : (f : Form) → with_number (number_of f) ≡ f
unfolding with_number
with_number_of Nothing = refl
with_number_of Own = refl
with_number_of Next = refl
with_number_of Second = refl
with_number_of Either = refl
with_number_of Both = refl
with_number_of Hidden = refl

-- forms with the same number are the same
pub form_once : (f g : Form) → number_of f ≡ number_of g → f ≡ g
form_once f g e = sym (with_number_of f) ∙ ap with_number e ∙ with_number_of g

-- no form of a part has a number above 6
small : {F A E : List ℕ} {n : Node} {h : ℕ} {t : Term} → part.Form F A E n h t → h ≤ 6
small (nothing s) = omega arith
small (own e c s) = omega arith
small (next P x) = omega arith
small (second m P e x) = omega arith
small (either P e x y) = omega arith
small (both P e x y) = omega arith
small (hidden e c x) = omega arith

-- the form that is told where a part begins has the number that stands there
pub form_told : {R : Rows} {n : Node} → SomePartAt R n → (f : Form) → number_of f ≡ min (get_or R.forms n 0) 6 → number_of f ≡ get_or R.forms n 0
form_told {n = n} S f e = omega (arith, e, small (form n S.0 S.1))

-- every form but these two has a number from 2 on
pub deeper : (f : Form) → f ≢ Nothing → f ≢ Own → 2 ≤ number_of f
deeper Nothing a b = absurd (a refl)
deeper Own a b = absurd (b refl)
deeper Next a b = omega arith
deeper Second a b = omega arith
deeper Either a b = omega arith
deeper Both a b = omega arith
deeper Hidden a b = omega arith

-- a form that is none of five is one of the other two
pub one_of_two : (f : Form) → f ≢ Nothing → f ≢ Own → f ≢ Next → f ≢ Hidden → f ≢ Second → (f ≡ Either) ⊎ (f ≡ Both)
one_of_two Nothing a b c d e = absurd (a refl)
one_of_two Own a b c d e = absurd (b refl)
one_of_two Next a b c d e = absurd (c refl)
one_of_two Second a b c d e = absurd (e refl)
one_of_two Either a b c d e = inl refl
one_of_two Both a b c d e = inr refl
one_of_two Hidden a b c d e = absurd (d refl)

-- A node of two parts that both step: its number.
module _ (R : Rows) {n : Node} (S : SomePartAt R n) {f : Form} (e : number_of f ≡ get_or R.forms n 0) (w : (f ≡ Either) ⊎ (f ≡ Both)) where
  pub of_two : (3 < get_or R.forms n 0) × (get_or R.forms n 0 ≢ 6)
  of_two = rw (← e) (⊎_elim (λ z. rw z (omega arith, λ q. omega arith)) (λ z. rw z (omega arith, λ q. omega arith)) w)

-- of the number of a form: where it is none of five, the form is one of the other two, of which both parts step
pub none_of_five : {f : ℕ} → f ≢ 0 → f ≢ 1 → f ≢ 2 → f ≢ 6 → f ≢ 3 → (3 < f) × (f ≢ 6)
none_of_five a b c d e = (omega arith, d)

-- where the parts of a node of two parts begin
module _ (R : Rows) {n : Node} (S : SomePartAt R n) (w : (3 < get_or R.forms n 0) × (get_or R.forms n 0 ≢ 6)) where
  pub first_of_two : SomePartAt R (n + 1)
  first_of_two = part_below S (omega (arith, w.0)) (λ q. omega (arith, w.0))

  pub second_of_two : {k : Node} → k ≡ get_or R.ends (n + 1) 0 → SomePartAt R k × (n < k)
  second_of_two d = part_beyond S d (omega (arith, w.0)) w.1
