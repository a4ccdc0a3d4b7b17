-- `mark` meets its contract: each return is one law of Marking for its form, and each call begins at a later node.
use mathlib.Core.Path.{◌≡◌, refl, ◌∙◌}
use mathlib.Core.Logic.{◌≢◌}
use native.Mathlib.Omega.{arith}
use lib.ListN.{get_or}
use Rattle.offers.proofs.Forms.{form, two_parts, inside, next_inside, part_below, part_beyond, hidden_name}
use Rattle.index.specs.declared.Form.TheVariants.{Nothing, Own, Next, Second, Hidden}
use Rattle.index.specs.Whole.{number_of}
use Rattle.index.proofs.FormNumbers.{none_of_five, first_of_two, second_of_two, form_told}
use Rattle.wanted.proofs.Marking.{marked_nothing, marked_own, marked_next, marked_second, marked_hidden, marked_two, marks_noted, marks_passed}
use Rattle.wanted.proofs.+mark.Goals as goal

pub has_form-requires : goal.has_form-requires
has_form-requires t c = inside c.requires.some_part

pub returns-then-has_form : goal.returns-then-has_form
returns-then-has_form t c = let z : get_or c.args.rows.now.forms c.args.n 0 ≡ number_of Nothing = rw c.if-has_form.true at c.has_form.ensures.0 in marks_noted (λ t P. marked_nothing (rw z at (form c.args.n t P)) c.empty.ensures) (λ z. z) refl refl c.show.ensures

pub returns-then-has_form-2 : goal.returns-then-has_form-2
returns-then-has_form-2 t c = let z : get_or c.args.rows.now.forms c.args.n 0 ≡ number_of Own = rw c.if-has_form-2.true at c.has_form-2.ensures.0 in marks_noted (λ t P. marked_own (rw z at (form c.args.n t P)) c.only.ensures c.mark_own.ensures) (λ z. z) c.mark_own.ensures.room refl c.show-then-has_form-2.ensures

pub mark-requires : goal.mark-requires
mark-requires t c = let z : get_or c.args.rows.now.forms c.args.n 0 ≡ number_of Next = rw c.if-has_form-3.true at c.has_form-3.ensures.0 in (omega (arith, c.decreases, inside c.requires.some_part), (part_below c.requires.some_part (omega (arith, z)) (λ e. omega (arith, z)), c.requires.room))

pub returns-then-has_form-3 : goal.returns-then-has_form-3
returns-then-has_form-3 t c = let z : get_or c.args.rows.now.forms c.args.n 0 ≡ number_of Next = rw c.if-has_form-3.true at c.has_form-3.ensures.0 in marks_passed (λ t P. marked_next (rw z at (form c.args.n t P)) c.mark.ensures.part) c.mark.ensures

pub without_name-below-requires : goal.without_name-below-requires
without_name-below-requires t c = let z : get_or c.args.rows.now.forms c.args.n 0 ≡ number_of Hidden = rw c.if-has_form-4.true at c.has_form-4.ensures.0 in hidden_name c.requires.some_part (omega (arith, z))

pub mark-requires-then-has_form-4 : goal.mark-requires-then-has_form-4
mark-requires-then-has_form-4 t c = let z : get_or c.args.rows.now.forms c.args.n 0 ≡ number_of Hidden = rw c.if-has_form-4.true at c.has_form-4.ensures.0 in (omega (arith, c.decreases, inside c.requires.some_part), (part_below c.requires.some_part (omega (arith, z)) (λ e. omega (arith, z)), c.requires.room))

pub without_name-requires : goal.without_name-requires
without_name-requires t c = let z : get_or c.args.rows.now.forms c.args.n 0 ≡ number_of Hidden = rw c.if-has_form-4.true at c.has_form-4.ensures.0 in hidden_name c.requires.some_part (omega (arith, z))

pub returns-then-has_form-4 : goal.returns-then-has_form-4
returns-then-has_form-4 t c = let z : get_or c.args.rows.now.forms c.args.n 0 ≡ number_of Hidden = rw c.if-has_form-4.true at c.has_form-4.ensures.0 in marks_noted (λ t P. marked_hidden (rw z at (form c.args.n t P)) c.without_name-below.ensures c.mark-then-has_form-4.ensures.part c.without_name.ensures) c.mark-then-has_form-4.ensures.covers c.mark-then-has_form-4.ensures.room c.mark-then-has_form-4.ensures.long c.show-then-has_form-4.ensures

pub second_part-second-requires : goal.second_part-second-requires
second_part-second-requires t c = next_inside c.requires.some_part (let a : get_or c.args.rows.now.forms c.args.n 0 ≢ 0 = rw c.if-has_form.false at c.has_form.ensures.0 in let b : get_or c.args.rows.now.forms c.args.n 0 ≢ 1 = rw c.if-has_form-2.false at c.has_form-2.ensures.0 in omega arith)

pub mark-requires-then-has_form-5 : goal.mark-requires-then-has_form-5
mark-requires-then-has_form-5 t c = let z : get_or c.args.rows.now.forms c.args.n 0 ≡ number_of Second = rw c.if-has_form-5.true at c.has_form-5.ensures.0 in let B = part_beyond c.requires.some_part c.second_part-second.ensures (omega (arith, z)) (λ e. omega (arith, z)) in (omega (arith, c.decreases, B.1, inside B.0), (B.0, c.requires.room))

pub returns-then-has_form-5 : goal.returns-then-has_form-5
returns-then-has_form-5 t c = let z : get_or c.args.rows.now.forms c.args.n 0 ≡ number_of Second = rw c.if-has_form-5.true at c.has_form-5.ensures.0 in marks_passed (λ t P. marked_second (rw z at (form c.args.n t P)) c.second_part-second.ensures c.mark-then-has_form-5.ensures.part) c.mark-then-has_form-5.ensures

pub mark-requires-2 : goal.mark-requires-2
mark-requires-2 t c = let w = none_of_five (rw c.if-has_form.false at c.has_form.ensures.0) (rw c.if-has_form-2.false at c.has_form-2.ensures.0) (rw c.if-has_form-3.false at c.has_form-3.ensures.0) (rw c.if-has_form-4.false at c.has_form-4.ensures.0) (rw c.if-has_form-5.false at c.has_form-5.ensures.0) in let B = second_of_two c.args.rows.now c.requires.some_part w c.second_part-second.ensures in (omega (arith, c.decreases, B.1, inside B.0), (B.0, c.requires.room))

pub form_at-form-requires : goal.form_at-form-requires
form_at-form-requires t c = inside c.requires.some_part

pub mark-requires-3 : goal.mark-requires-3
mark-requires-3 t c = let w = none_of_five (rw c.if-has_form.false at c.has_form.ensures.0) (rw c.if-has_form-2.false at c.has_form-2.ensures.0) (rw c.if-has_form-3.false at c.has_form-3.ensures.0) (rw c.if-has_form-4.false at c.has_form-4.ensures.0) (rw c.if-has_form-5.false at c.has_form-5.ensures.0) in (omega (arith, c.decreases, inside c.requires.some_part), (first_of_two c.args.rows.now c.requires.some_part w, omega (arith, c.mark-2.ensures.long, c.requires.room)))

pub returns : goal.returns
returns t c = let w = none_of_five (rw c.if-has_form.false at c.has_form.ensures.0) (rw c.if-has_form-2.false at c.has_form-2.ensures.0) (rw c.if-has_form-3.false at c.has_form-3.ensures.0) (rw c.if-has_form-4.false at c.has_form-4.ensures.0) (rw c.if-has_form-5.false at c.has_form-5.ensures.0) in
    marks_noted (λ t P. marked_two _ c.second_part-second.ensures c.mark-2.ensures.part c.asked-below.ensures c.mark-3.ensures.part c.joined.ensures (two_parts (form c.args.n t P) w.0 w.1) (form_told c.requires.some_part _ c.form_at-form.ensures.0))
    (λ z. c.mark-3.ensures.covers (c.mark-2.ensures.covers z)) (c.mark-3.ensures.room ∙ c.mark-2.ensures.room) (c.mark-3.ensures.long ∙ c.mark-2.ensures.long) c.show-2.ensures
