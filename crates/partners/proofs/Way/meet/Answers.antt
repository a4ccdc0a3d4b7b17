-- `meet` meets its contract: each turn back is one law of Ways.
use mathlib.Core.Path.{refl, sym, ap, ◌∙◌}
use mathlib.Core.Bool.{true≢false}
use Rattle.index.specs.declared.Form.TheVariants.{Both, Hidden}
use Rattle.index.proofs.FormNumbers.{form_once, form_told}
use native.Mathlib.Omega.{arith}
use Prim.Native.Nat.{◌-◌, min}
use Rattle.offers.proofs.Forms.{inside, part_beyond}
use Rattle.partners.proofs.Ways.{turn_inner, back_hidden, back_left, back_both, few_before}
use Rattle.partners.proofs.Way.meet.Goals as goal

pub turn_at-n-requires : goal.turn_at-n-requires
turn_at-n-requires c = let T = c.requires.way.turns (c.loop-k.k - 1) (omega (arith, c.loop-k-test.true, c.loop-k.auto.k)) in (omega (arith, T.deep, inside T.part), inside (turn_inner T refl))

pub loop-k-preserved-in-Hidden : goal.loop-k-preserved-in-Hidden
loop-k-preserved-in-Hidden c = let T = c.requires.way.turns (c.loop-k.k - 1) (omega (arith, c.loop-k-test.true, c.loop-k.auto.k)) in back_hidden c.requires c.loop-k.k (c.loop-k.k - 1) (omega (arith, c.loop-k-test.true)) (omega (arith, c.loop-k-test.true, c.loop-k.auto.k)) c.turn_at-n.ensures.0 c.loop-k.invariant (omega (arith, form_told (rw (sym c.turn_at-n.ensures.0) at T.part) Hidden c.in-Hidden.ensures.0)) c.hide-label.ensures

pub list_answers-requires-clause-some_part : goal.list_answers-requires-clause-some_part
list_answers-requires-clause-some_part c = let T = c.requires.way.turns (c.loop-k.k - 1) (omega (arith, c.loop-k-test.true, c.loop-k.auto.k)) in (part_beyond (rw (sym c.turn_at-n.ensures.0) at T.part) c.second_part.ensures (omega (arith, c.in-Both.ensures.0)) (λ e. omega (arith, c.in-Both.ensures.0))).0

pub list_answers-requires-clause-few : goal.list_answers-requires-clause-few
list_answers-requires-clause-few c = let T = c.requires.way.turns (c.loop-k.k - 1) (omega (arith, c.loop-k-test.true, c.loop-k.auto.k)) in omega (arith, few_before c.args.self.now.turns.row c.loop-k.k (c.loop-k.k - 1) (omega (arith, c.loop-k-test.true)) c.turn_at-n.ensures.0 c.loop-k.invariant (turn_inner T c.turn_at-n.ensures.0), c.second_part.ensures)

pub loop-k-preserved-then-listing : goal.loop-k-preserved-then-listing
loop-k-preserved-then-listing c = back_both c.requires c.loop-k.k (c.loop-k.k - 1) (omega (arith, c.loop-k-test.true)) (omega (arith, c.loop-k-test.true, c.loop-k.auto.k)) c.turn_at-n.ensures.0 c.loop-k.invariant (omega (arith, c.in-Both.ensures.0)) c.second_part.ensures c.list_answers.ensures

pub loop-k-preserved-else-listing : goal.loop-k-preserved-else-listing
loop-k-preserved-else-listing c = back_left c.requires c.loop-k.k (c.loop-k.k - 1) (omega (arith, c.loop-k-test.true)) (omega (arith, c.loop-k-test.true, c.loop-k.auto.k)) c.turn_at-n.ensures.0 c.loop-k.invariant (λ e. omega (arith, c.in-Both.ensures.0, e)) (λ e b. absurd (true≢false (sym b ∙ c.if-listing.false)))

pub loop-k-preserved : goal.loop-k-preserved
loop-k-preserved c = back_left c.requires c.loop-k.k (c.loop-k.k - 1) (omega (arith, c.loop-k-test.true)) (omega (arith, c.loop-k-test.true, c.loop-k.auto.k)) c.turn_at-n.ensures.0 c.loop-k.invariant (λ e. c.in_default.not-Hidden (form_once _ Hidden (c.form_at.ensures.0 ∙ ap (λ x. min x 6) e))) (λ e b. absurd (c.in_default.not-Both (form_once _ Both (c.form_at.ensures.0 ∙ ap (λ x. min x 6) e))))
