-- `list` meets its contract: whatever is listed from the present node on completes the list of the part, by one law of Showing for its form.
use mathlib.Core.Path.{◌≡◌}
use mathlib.Core.Logic.{◌≢◌}
use native.Mathlib.Omega.{arith}
use lib.ListN.{get_or}
use Rattle.offers.proofs.Forms.{inside, next_inside, part_below, part_beyond, hidden_name, part_end}
use Rattle.index.specs.declared.Form.TheVariants.{Nothing, Own, Next, Second, Hidden}
use Rattle.index.specs.Whole.{number_of}
use Rattle.index.proofs.FormNumbers.{none_of_five, first_of_two, second_of_two}
use Rattle.showing.proofs.Showing.{lists_nothing, lists_own, lists_next, lists_second, lists_hidden, lists_two, lists_beyond, lists_before}
use Rattle.showing.proofs.+list.Goals as goal

pub down-init : goal.down-init
down-init t c = record { part = c.requires.some_part; few = c.requires.few; later = omega arith; rest = λ L l. l }

pub has_form-requires : goal.has_form-requires
has_form-requires t c = inside c.down.invariant.part

pub returns-then-has_form : goal.returns-then-has_form
returns-then-has_form t c = let z : get_or c.args.rows.now.forms c.down.at 0 ≡ number_of Nothing = rw c.if-has_form.true at c.has_form.ensures.0 in c.down.invariant.rest _ (lists_nothing (omega (arith, z)) c.down.invariant.few)

pub list_own-requires : goal.list_own-requires
list_own-requires t c = (inside c.down.invariant.part, c.down.invariant.few)

pub returns-then-has_form-2 : goal.returns-then-has_form-2
returns-then-has_form-2 t c = let z : get_or c.args.rows.now.forms c.down.at 0 ≡ number_of Own = rw c.if-has_form-2.true at c.has_form-in-down.ensures.0 in c.down.invariant.rest _ (lists_own (omega (arith, z)) c.list_own.ensures.0 c.list_own.ensures.1)

pub overflow_add-next : goal.overflow_add-next
overflow_add-next t c = omega (arith, inside c.down.invariant.part)

pub down-preserved-then-has_form-3 : goal.down-preserved-then-has_form-3
down-preserved-then-has_form-3 t c = let z : get_or c.args.rows.now.forms c.down.at 0 ≡ number_of Next = rw c.if-has_form-3.true at c.has_form-in-down-2.ensures.0 in record {
  part = part_below c.down.invariant.part (omega (arith, z)) (λ e. omega (arith, z));
  few = omega (arith, c.down.invariant.few);
  later = omega (arith, c.down.invariant.later);
  rest = λ L l. c.down.invariant.rest L (lists_next (omega (arith, z)) l);
}

pub without_name-seek-requires : goal.without_name-seek-requires
without_name-seek-requires t c = let z : get_or c.args.rows.now.forms c.down.at 0 ≡ number_of Hidden = rw c.if-has_form-4.true at c.has_form-in-down-3.ensures.0 in hidden_name c.down.invariant.part (omega (arith, z))

pub down-preserved-then-has_form-4 : goal.down-preserved-then-has_form-4
down-preserved-then-has_form-4 t c = let z : get_or c.args.rows.now.forms c.down.at 0 ≡ number_of Hidden = rw c.if-has_form-4.true at c.has_form-in-down-3.ensures.0 in record {
  part = part_below c.down.invariant.part (omega (arith, z)) (λ e. omega (arith, z));
  few = omega (arith, c.down.invariant.few);
  later = omega (arith, c.down.invariant.later);
  rest = λ L l. c.down.invariant.rest L (lists_hidden (omega (arith, z)) c.without_name-seek.ensures l);
}

pub second_part-second-requires : goal.second_part-second-requires
second_part-second-requires t c = next_inside c.down.invariant.part (let a : get_or c.args.rows.now.forms c.down.at 0 ≢ 0 = rw c.if-has_form.false at c.has_form.ensures.0 in let b : get_or c.args.rows.now.forms c.down.at 0 ≢ 1 = rw c.if-has_form-2.false at c.has_form-in-down.ensures.0 in omega arith)

pub down-smaller-then-has_form-5 : goal.down-smaller-then-has_form-5
down-smaller-then-has_form-5 t c = let z : get_or c.args.rows.now.forms c.down.at 0 ≡ number_of Second = rw c.if-has_form-5.true at c.has_form-in-down-4.ensures.0 in omega (arith, inside c.down.invariant.part, (part_beyond c.down.invariant.part c.second_part-second.ensures (omega (arith, z)) (λ e. omega (arith, z))).1)

pub down-preserved-then-has_form-5 : goal.down-preserved-then-has_form-5
down-preserved-then-has_form-5 t c = let z : get_or c.args.rows.now.forms c.down.at 0 ≡ number_of Second = rw c.if-has_form-5.true at c.has_form-in-down-4.ensures.0 in let B = part_beyond c.down.invariant.part c.second_part-second.ensures (omega (arith, z)) (λ e. omega (arith, z)) in record {
  part = B.0;
  few = omega (arith, c.down.invariant.few, B.1);
  later = omega (arith, c.down.invariant.later, B.1);
  rest = λ L l. c.down.invariant.rest L (lists_second (omega (arith, z)) c.second_part-second.ensures l);
}

pub shows_none-requires : goal.shows_none-requires
shows_none-requires t c = let w = none_of_five (rw c.if-has_form.false at c.has_form.ensures.0) (rw c.if-has_form-2.false at c.has_form-in-down.ensures.0) (rw c.if-has_form-3.false at c.has_form-in-down-2.ensures.0) (rw c.if-has_form-4.false at c.has_form-in-down-3.ensures.0) (rw c.if-has_form-5.false at c.has_form-in-down-4.ensures.0) in inside (first_of_two c.args.rows.now c.down.invariant.part w)

pub down-smaller-then-shows_none : goal.down-smaller-then-shows_none
down-smaller-then-shows_none t c = let w = none_of_five (rw c.if-has_form.false at c.has_form.ensures.0) (rw c.if-has_form-2.false at c.has_form-in-down.ensures.0) (rw c.if-has_form-3.false at c.has_form-in-down-2.ensures.0) (rw c.if-has_form-4.false at c.has_form-in-down-3.ensures.0) (rw c.if-has_form-5.false at c.has_form-in-down-4.ensures.0) in let B = second_of_two c.args.rows.now c.down.invariant.part w c.second_part-second.ensures in omega (arith, inside c.down.invariant.part, B.1)

pub down-preserved-then-shows_none : goal.down-preserved-then-shows_none
down-preserved-then-shows_none t c = let w = none_of_five (rw c.if-has_form.false at c.has_form.ensures.0) (rw c.if-has_form-2.false at c.has_form-in-down.ensures.0) (rw c.if-has_form-3.false at c.has_form-in-down-2.ensures.0) (rw c.if-has_form-4.false at c.has_form-in-down-3.ensures.0) (rw c.if-has_form-5.false at c.has_form-in-down-4.ensures.0) in let B = second_of_two c.args.rows.now c.down.invariant.part w c.second_part-second.ensures in record {
  part = B.0;
  few = omega (arith, c.down.invariant.few, B.1);
  later = omega (arith, c.down.invariant.later, B.1);
  rest = λ L l. c.down.invariant.rest L (lists_beyond _ c.second_part-second.ensures w.0 w.1 c.down.invariant.few (c.shows_none.ensures c.if-shows_none.true) l);
}

pub shows_none-requires-in-down : goal.shows_none-requires-in-down
shows_none-requires-in-down t c = let w = none_of_five (rw c.if-has_form.false at c.has_form.ensures.0) (rw c.if-has_form-2.false at c.has_form-in-down.ensures.0) (rw c.if-has_form-3.false at c.has_form-in-down-2.ensures.0) (rw c.if-has_form-4.false at c.has_form-in-down-3.ensures.0) (rw c.if-has_form-5.false at c.has_form-in-down-4.ensures.0) in omega (arith, inside (first_of_two c.args.rows.now c.down.invariant.part w), inside (second_of_two c.args.rows.now c.down.invariant.part w c.second_part-second.ensures).0)

pub down-preserved-then-shows_none-2 : goal.down-preserved-then-shows_none-2
down-preserved-then-shows_none-2 t c = let w = none_of_five (rw c.if-has_form.false at c.has_form.ensures.0) (rw c.if-has_form-2.false at c.has_form-in-down.ensures.0) (rw c.if-has_form-3.false at c.has_form-in-down-2.ensures.0) (rw c.if-has_form-4.false at c.has_form-in-down-3.ensures.0) (rw c.if-has_form-5.false at c.has_form-in-down-4.ensures.0) in let D = first_of_two c.args.rows.now c.down.invariant.part w in record {
  part = D;
  few = omega (arith, c.down.invariant.few);
  later = omega (arith, c.down.invariant.later);
  rest = λ L l. c.down.invariant.rest L (lists_before _ c.second_part-second.ensures w.0 w.1 (c.shows_none-in-down.ensures c.if-shows_none-2.true) D l);
}

pub list-requires : goal.list-requires
list-requires t c = let w = none_of_five (rw c.if-has_form.false at c.has_form.ensures.0) (rw c.if-has_form-2.false at c.has_form-in-down.ensures.0) (rw c.if-has_form-3.false at c.has_form-in-down-2.ensures.0) (rw c.if-has_form-4.false at c.has_form-in-down-3.ensures.0) (rw c.if-has_form-5.false at c.has_form-in-down-4.ensures.0) in (omega (arith, c.decreases, inside c.down.invariant.part, c.down.invariant.later), (first_of_two c.args.rows.now c.down.invariant.part w, omega (arith, c.down.invariant.few)))

pub down-smaller : goal.down-smaller
down-smaller t c = let w = none_of_five (rw c.if-has_form.false at c.has_form.ensures.0) (rw c.if-has_form-2.false at c.has_form-in-down.ensures.0) (rw c.if-has_form-3.false at c.has_form-in-down-2.ensures.0) (rw c.if-has_form-4.false at c.has_form-in-down-3.ensures.0) (rw c.if-has_form-5.false at c.has_form-in-down-4.ensures.0) in let B = second_of_two c.args.rows.now c.down.invariant.part w c.second_part-second.ensures in omega (arith, inside c.down.invariant.part, B.1)

pub down-preserved : goal.down-preserved
down-preserved t c = let w = none_of_five (rw c.if-has_form.false at c.has_form.ensures.0) (rw c.if-has_form-2.false at c.has_form-in-down.ensures.0) (rw c.if-has_form-3.false at c.has_form-in-down-2.ensures.0) (rw c.if-has_form-4.false at c.has_form-in-down-3.ensures.0) (rw c.if-has_form-5.false at c.has_form-in-down-4.ensures.0) in let D = first_of_two c.args.rows.now c.down.invariant.part w in let B = second_of_two c.args.rows.now c.down.invariant.part w c.second_part-second.ensures in record {
  part = B.0;
  few = omega (arith, c.list.ensures.few D.0 D.1, part_end D.0 D.1, c.second_part-second.ensures);
  later = omega (arith, c.down.invariant.later, B.1);
  rest = λ L l. c.down.invariant.rest L (lists_two c.second_part-second.ensures c.list.ensures l w.0 w.1);
}
