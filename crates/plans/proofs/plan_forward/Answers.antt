-- `plan_forward` meets its contract: each return is one law of Plans about what the pass found.
use Rattle.std.proofs.lemmas.Result.{err_from_is_err_and}
use Rattle.std.proofs.Common.{arith}
use Rattle.operations.specs.Change.{ForwardStep.unreadable}
use Rattle.reader.proofs.Whole.{slice_bytes}
use Rattle.plans.proofs.Plans.{seen_in, forward_zero, forward_not, forward_stands, forward_none, forward_made}
use Rattle.plans.proofs.plan_forward.Goals as goal

pub returns-in_err-seen : goal.returns-in_err-seen
returns-in_err-seen c = let p = err_from_is_err_and c.from_residual.result c.from_residual.ensures.1 in rw (p.1, p.2) (unreadable c.in_err-seen.ensures)

pub returns-then-key-eq0 : goal.returns-then-key-eq0
returns-then-key-eq0 c = let a = c.args in forward_zero a.s.now a.p a.q a.key _ (seen_in a.s.now _ _ c.in_ok-seen.ensures) c.if-key-eq0.true

pub returns-in_err-first : goal.returns-in_err-first
returns-in_err-first c = let a = c.args in let w = seen_in a.s.now _ _ c.in_ok-seen.ensures in
    let p = err_from_is_err_and c.from_residual-in_err-first.result c.from_residual-in_err-first.ensures.1 in
    rw (p.1, p.2) (forward_not a.s.now a.p a.q a.key _ w c.if-key-eq0.false _ (c.places.ensures _ w.2.spots) _ c.in_err-first.ensures)

pub returns-then-seen : goal.returns-then-seen
returns-then-seen c = let a = c.args in let w = seen_in a.s.now _ _ c.in_ok-seen.ensures in forward_stands a.s.now a.p a.q a.key _ w c.if-key-eq0.false _ (c.places.ensures _ w.2.spots) _ _ c.in_ok-first.ensures c.if-seen.true

pub returns-in_err-label : goal.returns-in_err-label
returns-in_err-label c = let a = c.args in let w = seen_in a.s.now _ _ c.in_ok-seen.ensures in
    let p = err_from_is_err_and c.from_residual-in_err-label.result c.from_residual-in_err-label.ensures.1 in
    rw (p.1, p.2) (forward_none a.s.now a.p a.q a.key _ w c.if-key-eq0.false _ (c.places.ensures _ w.2.spots) _ _ c.in_ok-first.ensures c.if-seen.false _ (rw c.label.ensures at c.in_err-label.ensures.value))

pub returns : goal.returns
returns c = let a = c.args in let w = seen_in a.s.now _ _ c.in_ok-seen.ensures in
    forward_made a.s.now a.p a.q a.key _ w c.if-key-eq0.false _ (c.places.ensures _ w.2.spots) _ _ c.in_ok-first.ensures c.if-seen.false (slice_bytes a.s.now (λ i. omega (arith, c.type_inv.s i))) _ (rw c.label.ensures at c.in_ok-label.ensures.value)
