-- `plan_undo` meets its contract: each return is one law of Plans about what the pass found.
use Rattle.std.proofs.lemmas.Result.{err_from_is_err_and}
use Rattle.std.proofs.Common.{arith}
use Rattle.operations.specs.Change.{UndoStep.unreadable}
use Rattle.reader.proofs.Whole.{slice_bytes}
use Rattle.plans.proofs.Plans.{seen_in, undo_zero, undo_absent, undo_more, undo_none, undo_one, undo_two}
use Rattle.plans.proofs.plan_undo.Goals as goal
use Rattle.plans.proofs.plan_undo.Goals.{in-One, in-Two}

pub returns-in_err-seen : goal.returns-in_err-seen
returns-in_err-seen c = let p = err_from_is_err_and c.from_residual.result c.from_residual.ensures.1 in rw (p.1, p.2) (unreadable c.in_err-seen.ensures)

pub returns-then-key-eq0 : goal.returns-then-key-eq0
returns-then-key-eq0 c = let a = c.args in undo_zero a.s.now a.key _ (seen_in a.s.now _ _ c.in_ok-seen.ensures) c.if-key-eq0.true

pub returns-in-Zero : goal.returns-in-Zero
returns-in-Zero c = let a = c.args in let w = seen_in a.s.now _ _ c.in_ok-seen.ensures in undo_absent a.s.now a.key _ w c.if-key-eq0.false _ (c.places.ensures _ w.2.spots) c.in-Zero.is

pub returns-in-More : goal.returns-in-More
returns-in-More c = let a = c.args in let w = seen_in a.s.now _ _ c.in_ok-seen.ensures in undo_more a.s.now a.key _ w c.if-key-eq0.false _ (c.places.ensures _ w.2.spots) _ _ _ c.in-More.is

pub returns-in_err-label : goal.returns-in_err-label
returns-in_err-label c = let a = c.args in let w = seen_in a.s.now _ _ c.in_ok-seen.ensures in
    let p = err_from_is_err_and c.from_residual-in_err-label.result c.from_residual-in_err-label.ensures.1 in
    rw (p.1, p.2) (undo_none a.s.now a.key _ w c.if-key-eq0.false _ (c.places.ensures _ w.2.spots) _ (rw c.label.ensures at c.in_err-label.ensures.value)
    (λ z. elim c.match-places.branch [ in-One w ↦ absurd cc | in-Two w ↦ absurd cc ]))

pub returns : goal.returns
returns c = let a = c.args in let w = seen_in a.s.now _ _ c.in_ok-seen.ensures in
    let b = slice_bytes a.s.now (λ i. omega (arith, c.type_inv.s i)) in
    let l = rw c.label.ensures at c.in_ok-label.ensures.value in
    elim c.match-places.branch [
      | in-One z ↦ rw z.first-is (undo_one a.s.now a.key _ w c.if-key-eq0.false _ (c.places.ensures _ w.2.spots) b _ l _ z.in-One.is)
      | in-Two z ↦ rw z.first-is (undo_two a.s.now a.key _ w c.if-key-eq0.false _ (c.places.ensures _ w.2.spots) b _ l _ _ z.in-Two.is)
    ]
