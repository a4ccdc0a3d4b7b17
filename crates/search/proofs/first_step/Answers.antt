-- `first_step` meets its contract: the rows of the record, the marks of its wanted places, and the search over them.
use Rattle.std.proofs.lemmas.Result.{err_from_is_err_and}
use native.Mathlib.Omega.{arith}
use Rattle.operations.specs.Ask.{unreadable}
use Rattle.search.proofs.Answers.{marked_all, first_answer}
use Rattle.search.proofs.first_step.Goals as goal

pub returns-in_err-nodes : goal.returns-in_err-nodes
returns-in_err-nodes c = let p = err_from_is_err_and c.from_residual.result c.from_residual.ensures.1 in rw (p.1, p.2) (unreadable c.in_err-nodes.ensures)

pub next_step-requires : goal.next_step-requires
next_step-requires c = let f = c.in_ok-nodes.ensures in (f.0, marked_all {m = 4096} (omega (arith, f.2.count, f.2.fits.nodes)) f.2 c.full.ensures c.mark.ensures)

pub returns : goal.returns
returns c = let f = c.in_ok-nodes.ensures in first_answer c.args.record.now f.0 c.args.p.0 c.args.q.0 f.1 c.next_step.result (c.next_step.ensures f.0 (marked_all {m = 4096} (omega (arith, f.2.count, f.2.fits.nodes)) f.2 c.full.ensures c.mark.ensures))
