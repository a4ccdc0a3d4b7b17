-- `pass_all` meets its contract: the pass over the term at the start of the bytes, and nothing after it.
use Rattle.std.proofs.lemmas.Result.{err_from_is_err_and}
use Rattle.std.proofs.Common.{arith}
use Rattle.reader.proofs.Whole.{refuses_stopped, refuses_trailing, reads_whole}
use Rattle.passes.proofs.pass_all.Goals as goal

pub returns-in_err-done : goal.returns-in_err-done
returns-in_err-done g c = let p = err_from_is_err_and c.from_residual.result c.from_residual.ensures.1 in
    rw (p.1, p.2) (refuses_stopped c.args.s.now _ c.in_err-done.ensures)

pub returns-then-from-s : goal.returns-then-from-s
returns-then-from-s g c = let w = c.in_ok-done.ensures in refuses_trailing c.args.s.now w.0 _ _ w.1 (omega (arith, c.from.ensures, c.if-from-s.true))

pub returns : goal.returns
returns g c = let w = c.in_ok-done.ensures in (w.0, reads_whole c.args.s.now w.0 _ _ w.1 (omega (arith, c.from.ensures, c.if-from-s.false)), w.2)
