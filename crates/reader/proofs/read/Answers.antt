-- `read` meets its contract: what is left to read always comes to what the whole record comes to, by the laws of Due.
use Rattle.std.proofs.lemmas.Result.{err_from_is_err_and}
use native.Mathlib.Omega.{arith}
use Rattle.operations.specs.Ask.{unreadable}
use Rattle.reader.proofs.Whole.{slice_bytes}
use Rattle.reader.proofs.Due.{more_bytes, no_more_bytes}
use Rattle.reader.proofs.read.Goals as goal

pub returns-in_err-head : goal.returns-in_err-head
returns-in_err-head c = let p = err_from_is_err_and c.from_residual.result c.from_residual.ensures.1 in
    rw (p.1, p.2) (unreadable c.in_err-head.ensures)

pub returns-then-at-bytes : goal.returns-then-at-bytes
returns-then-at-bytes c = unreadable (more_bytes c.args.bytes.now c.loop-many.due c.loop-many.many c.loop-many.left c.loop-many.at c.loop-many.invariant (omega (arith, c.loop-many-test.false)) c.if-at-bytes.true)

pub returns : goal.returns
returns c = no_more_bytes c.args.bytes.now c.loop-many.due c.loop-many.many c.loop-many.left c.loop-many.at c.loop-many.invariant (omega (arith, c.loop-many-test.false)) (slice_bytes c.args.bytes.now (λ i. omega (arith, c.type_inv.bytes i))) c.if-at-bytes.false
