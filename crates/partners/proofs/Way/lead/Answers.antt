-- `lead` meets its contract: first the way comes back turn by turn, then it goes on, one law of Ways for each form.
use mathlib.Core.Path.{◌≡◌, refl, sym}
use lib.ListN.{get_or}
use Rattle.index.specs.declared.Form.TheVariants.{Nothing, Own, Next, Second, Hidden}
use Rattle.index.specs.Whole.{number_of}
use mathlib.Core.Logic.{inl, inr, ◌≢◌}
use native.Mathlib.Omega.{arith}
use Prim.Native.Nat.{◌-◌, ◌+◌}
use Rattle.offers.proofs.Forms.{inside, next_inside, part_beyond}
use Rattle.index.proofs.FormNumbers.{none_of_five, second_of_two}
use Rattle.partners.proofs.Mates.{meets_nothing, meets_own, own_label}
use Rattle.partners.proofs.Ways.{turn_inner, way_back, way_next, way_second, way_turn, left_turn, all_left}
use Rattle.partners.proofs.Way.lead.Goals as goal
use Rattle.partners.proofs.Way.lead.Goals.{else-back-test, then-back-test+then-i-second_part}

pub turn_at-last-requires : goal.turn_at-last-requires
turn_at-last-requires c = (omega (arith, c.back.invariant.deep, c.back.invariant.low), inside (turn_inner (c.back.invariant.turns (c.back.self.turns.count - 1) (omega (arith, c.back-test.true))) refl))

pub back-preserved : goal.back-preserved
back-preserved c = rw (sym c.turn_at-last.ensures.0) at (way_back c.back.invariant (c.back.self.turns.count - 1) (omega (arith, c.back-test.true)))

pub down-init : goal.down-init
down-init c = record {
  way = c.back.invariant;
  left = elim c.back-test.branch [
    | else-back-test w ↦ λ k h g. absurd (omega (arith, w.back-test.false))
    | then-back-test+then-i-second_part w ↦ λ k h g. all_left c.back.invariant (c.back.self.turns.count - 1) (omega (arith, w.back-test.true)) (rw (w.second_part.ensures, w.turn_at-last.ensures.0) at w.if-i-second_part.true) k h
  ];
}

pub has_form-requires : goal.has_form-requires
has_form-requires c = c.down.invariant.way.low

pub returns-then-has_form : goal.returns-then-has_form
returns-then-has_form c = let z : get_or c.args.rows.now.forms c.down.self.node 0 ≡ number_of Nothing = rw c.if-has_form.true at c.has_form.ensures.0 in record { way = c.down.invariant.way; left = c.down.invariant.left; met = λ K b L y. meets_nothing y (omega (arith, z)) }

pub returns-then-has_form-2 : goal.returns-then-has_form-2
returns-then-has_form-2 c = let z : get_or c.args.rows.now.forms c.down.self.node 0 ≡ number_of Own = rw c.if-has_form-2.true at c.has_form-in-down.ensures.0 in record { way = c.down.invariant.way; left = c.down.invariant.left; met = λ K b L y. meets_own y (omega (arith, z)) (own_label c.down.self.node c.args.i _ c.then_some-self.ensures) }

pub down-preserved-then-has_form-3 : goal.down-preserved-then-has_form-3
down-preserved-then-has_form-3 c = let z : get_or c.args.rows.now.forms c.down.self.node 0 ≡ number_of Next = rw c.if-has_form-3.true at c.has_form-in-down-2.ensures.0 in record { way = way_next c.down.invariant.way (omega (arith, z)); left = c.down.invariant.left }

pub down-preserved-then-has_form-4 : goal.down-preserved-then-has_form-4
down-preserved-then-has_form-4 c = let z : get_or c.args.rows.now.forms c.down.self.node 0 ≡ number_of Hidden = rw c.if-has_form-4.true at c.has_form-in-down-3.ensures.0 in rw (c.push.ensures.row, c.push.ensures.count) (record {
  way = way_turn c.push.ensures.room (omega arith) c.down.invariant.way (omega (arith, z));
  left = left_turn c.args.rows.now c.down.self.turns.row c.args.i c.down.self.node c.down.self.turns.count (c.down.self.turns.count + 1) c.push.ensures.room (omega arith) c.down.invariant.left (λ g. absurd (g (omega (arith, z))));
})

pub second_part-second-requires : goal.second_part-second-requires
second_part-second-requires c = next_inside c.down.invariant.way.part (let a : get_or c.args.rows.now.forms c.down.self.node 0 ≢ 0 = rw c.if-has_form.false at c.has_form.ensures.0 in let b : get_or c.args.rows.now.forms c.down.self.node 0 ≢ 1 = rw c.if-has_form-2.false at c.has_form-in-down.ensures.0 in omega arith)

pub down-smaller-then-has_form-5 : goal.down-smaller-then-has_form-5
down-smaller-then-has_form-5 c = let z : get_or c.args.rows.now.forms c.down.self.node 0 ≡ number_of Second = rw c.if-has_form-5.true at c.has_form-in-down-4.ensures.0 in omega (arith, inside c.down.invariant.way.part, (part_beyond c.down.invariant.way.part c.second_part-second.ensures (omega (arith, z)) (λ e. omega (arith, z))).1)

pub down-preserved-then-has_form-5 : goal.down-preserved-then-has_form-5
down-preserved-then-has_form-5 c = let z : get_or c.args.rows.now.forms c.down.self.node 0 ≡ number_of Second = rw c.if-has_form-5.true at c.has_form-in-down-4.ensures.0 in record { way = way_second c.down.invariant.way c.second_part-second.ensures (omega (arith, z)) (λ q. omega (arith, z)) (inl (omega (arith, z))); left = c.down.invariant.left }

pub down-smaller-then-second-i : goal.down-smaller-then-second-i
down-smaller-then-second-i c = let w = none_of_five (rw c.if-has_form.false at c.has_form.ensures.0) (rw c.if-has_form-2.false at c.has_form-in-down.ensures.0) (rw c.if-has_form-3.false at c.has_form-in-down-2.ensures.0) (rw c.if-has_form-4.false at c.has_form-in-down-3.ensures.0) (rw c.if-has_form-5.false at c.has_form-in-down-4.ensures.0) in omega (arith, inside c.down.invariant.way.part, (second_of_two c.args.rows.now c.down.invariant.way.part w c.second_part-second.ensures).1)

pub down-preserved-then-second-i : goal.down-preserved-then-second-i
down-preserved-then-second-i c = let w = none_of_five (rw c.if-has_form.false at c.has_form.ensures.0) (rw c.if-has_form-2.false at c.has_form-in-down.ensures.0) (rw c.if-has_form-3.false at c.has_form-in-down-2.ensures.0) (rw c.if-has_form-4.false at c.has_form-in-down-3.ensures.0) (rw c.if-has_form-5.false at c.has_form-in-down-4.ensures.0) in record { way = way_second c.down.invariant.way c.second_part-second.ensures (omega (arith, w.0)) w.1 (inr c.if-second-i.true); left = c.down.invariant.left }

pub down-preserved : goal.down-preserved
down-preserved c = let w = none_of_five (rw c.if-has_form.false at c.has_form.ensures.0) (rw c.if-has_form-2.false at c.has_form-in-down.ensures.0) (rw c.if-has_form-3.false at c.has_form-in-down-2.ensures.0) (rw c.if-has_form-4.false at c.has_form-in-down-3.ensures.0) (rw c.if-has_form-5.false at c.has_form-in-down-4.ensures.0) in rw (c.push-in-down.ensures.row, c.push-in-down.ensures.count) (record {
  way = way_turn c.push-in-down.ensures.room (omega arith) c.down.invariant.way w.0;
  left = left_turn c.args.rows.now c.down.self.turns.row c.args.i c.down.self.node c.down.self.turns.count (c.down.self.turns.count + 1) c.push-in-down.ensures.room (omega arith) c.down.invariant.left (λ g. omega (arith, c.second_part-second.ensures, c.if-second-i.false));
})
