-- `gather` meets its contract: at each return a law says what the node notes after its children. The measure is the depth left.
use Rattle.std.proofs.lemmas.Result.{err_from_is_err_and}
use native.Mathlib.Omega.{arith}
use Rattle.gather.proofs.Gathers.{room_left, entered, gathers_nil, gathers_stop, gathers_prefix, gathers_restriction, gathers_second_stop, gathers_two}
use Rattle.gather.proofs.+gather.Goals as goal

pub returns-then-head-eq0 : goal.returns-then-head-eq0
returns-then-head-eq0 t c =
    let a = c.args in
    gathers_nil a.s.now a.at a.deep a.left _ _ _ c.in_ok-head.ensures a.notes.now c.requires.0 c.if-head-eq0.true

pub returns-in_err-first : goal.returns-in_err-first
returns-in_err-first t c =
    let a = c.args in
    let p = err_from_is_err_and c.from_residual-in_err-first.result c.from_residual-in_err-first.ensures.1 in
    rw (p.1, p.2) (gathers_stop a.s.now a.at a.deep a.left _ _ _ c.in_ok-head.ensures a.notes.now c.requires.0 c.if-head-eq0.false _ _ c.enter-entered.ensures _ c.in_err-first.ensures)

pub gather-requires-in_default : goal.gather-requires-in_default
gather-requires-in_default t c =
    let a = c.args in
    let e = entered a.s.now a.at a.deep a.left _ _ _ c.in_ok-head.ensures a.notes.now c.requires.0 c.if-head-eq0.false _ _ c.enter-entered.ensures in
    let r = room_left a.s.now _ _ _ _ _ _ c.in_ok-first.ensures e.1 (omega (arith, e, c.enter-entered.ensures.same_lasts.1, c.requires.1)) in
    (omega (arith, c.decreases, c.in_ok-head.ensures.levels), (r.0, r.1))

pub returns-in_err-second-in_default : goal.returns-in_err-second-in_default
returns-in_err-second-in_default t c =
    let a = c.args in
    let p = err_from_is_err_and c.from_residual-in_err-second-in_default.result c.from_residual-in_err-second-in_default.ensures.1 in
    rw (p.1, p.2) (gathers_second_stop a.s.now a.at a.deep a.left _ _ _ c.in_ok-head.ensures a.notes.now c.requires.0 c.if-head-eq0.false _ _ c.enter-entered.ensures _ _ c.in_ok-first.ensures (omega (arith, c.requires, c.enter-entered.ensures.room)) c.in_default.not-Prefix c.in_default.not-Restriction _ c.in_err-second-in_default.ensures)

pub returns-in-Prefix : goal.returns-in-Prefix
returns-in-Prefix t c =
    let a = c.args in
    gathers_prefix a.s.now a.at a.deep a.left _ _ _ c.in_ok-head.ensures a.notes.now c.requires.0 c.if-head-eq0.false _ _ c.enter-entered.ensures _ _ c.in_ok-first.ensures (omega (arith, c.requires, c.enter-entered.ensures.room)) c.in-Prefix.is _ c.leave_prefix.ensures

pub returns-in-Restriction : goal.returns-in-Restriction
returns-in-Restriction t c =
    let a = c.args in
    gathers_restriction a.s.now a.at a.deep a.left _ _ _ c.in_ok-head.ensures a.notes.now c.requires.0 c.if-head-eq0.false _ _ c.enter-entered.ensures _ _ c.in_ok-first.ensures (omega (arith, c.requires, c.enter-entered.ensures.room)) c.in-Restriction.is _ c.leave_restriction.ensures

pub returns-in_ok-second-in_default : goal.returns-in_ok-second-in_default
returns-in_ok-second-in_default t c =
    let a = c.args in
    gathers_two a.s.now a.at a.deep a.left _ _ _ c.in_ok-head.ensures a.notes.now c.requires.0 c.if-head-eq0.false _ _ c.enter-entered.ensures _ _ c.in_ok-first.ensures (omega (arith, c.requires, c.enter-entered.ensures.room)) c.in_default.not-Prefix c.in_default.not-Restriction _ _ c.in_ok-second-in_default.ensures _ c.leave_two.ensures
