-- `take_back` meets its contract: the refusals in their order.
use native.Mathlib.Omega.{arith}
use Rattle.std.proofs.lemmas.Result.{err_from_is_err_and}
use Rattle.operations.specs.TakeBack.{TakeBack}
use Rattle.takeback.proofs.Answers.{verdict_done, verdict_refused}
use Rattle.takeback.proofs.take_back.Goals as goal

pub returns-in_err-verdict : goal.returns-in_err-verdict
returns-in_err-verdict c =
    let p = err_from_is_err_and c.from_residual.result c.from_residual.ensures.1 in
    rw (p.1, p.2) (TakeBack.unreadable (verdict_refused _ c.in_err-verdict.ensures))

pub returns-then-k-eq0 : goal.returns-then-k-eq0
returns-then-k-eq0 c = TakeBack.key_zero (verdict_done c.in_ok-verdict.ensures).1 c.if-k-eq0.true

pub returns-then-verdict-ne0 : goal.returns-then-verdict-ne0
returns-then-verdict-ne0 c = let w = verdict_done c.in_ok-verdict.ensures in TakeBack.not_sound w.1 (omega (arith, c.if-k-eq0.false)) w.2 (omega (arith, c.if-verdict-ne0.true))
