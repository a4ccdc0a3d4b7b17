-- `verdict` meets its contract: the first two conditions from their pass, the others from the columns.
use Rattle.std.proofs.lemmas.Result.{err_from_is_err_and}
use borrow.Author.Rules.{rules}
use borrow.Author.Tests.{not-true, not-false}
use Rattle.pairs.specs.Condition.{verdict}
use Rattle.operations.specs.Ask.{unreadable}
use Rattle.reader.proofs.Whole.{slice_bytes}
use Rattle.soundness.proofs.Whole.{first_verdict, second_verdict, fair, last_verdict}
use Rattle.soundness.proofs.verdict.Goals.{then-not-marks, else-not-marks+then-not-marks-2, else-not-marks+else-not-marks-2}
use Rattle.soundness.proofs.verdict.Goals as goal

pub returns-in_err-marks : goal.returns-in_err-marks
returns-in_err-marks c = let p = err_from_is_err_and c.from_residual.result c.from_residual.ensures.1 in rw (p.1, p.2) (unreadable c.in_err-marks.ensures)

pub judge-requires : goal.judge-requires
judge-requires c = fair c.args.record.now (slice_bytes c.args.record.now (λ i. search rules)) _ c.in_ok-marks.ensures (search (not-false _ c.if-not-marks.false, not-false _ c.if-not-marks-2.false)) (search (not-false _ c.if-not-marks.false, not-false _ c.if-not-marks-2.false))

pub returns : goal.returns
returns c = elim c.if-not-marks.branch [
  | then-not-marks w ↦ rw (c.number.ensures, w.fails-is) (first_verdict c.args.record.now (slice_bytes c.args.record.now (λ i. search rules)) _ c.in_ok-marks.ensures (not-true _ w.if-not-marks.true))
  | else-not-marks+then-not-marks-2 w ↦ rw (c.number.ensures, w.fails-is) (second_verdict c.args.record.now (slice_bytes c.args.record.now (λ i. search rules)) _ c.in_ok-marks.ensures (not-false _ w.if-not-marks.false) (not-true _ w.if-not-marks-2.true))
  | else-not-marks+else-not-marks-2 w ↦ rw (c.number.ensures, w.fails-is) (last_verdict c.args.record.now (slice_bytes c.args.record.now (λ i. search rules)) _ c.in_ok-marks.ensures (not-false _ w.if-not-marks.false) (not-false _ w.if-not-marks-2.false) (verdict w.judge.result) w.judge.ensures)
]
