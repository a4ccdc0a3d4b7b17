-- `refuse_zero` meets its contract: the reader decides which of the two refusals it is.
use mathlib.Core.Path.{refl}
use Rattle.std.proofs.lemmas.Result.{err_from_is_err_and}
use Rattle.operations.specs.Ask.{WaitingList}
use Rattle.reader.proofs.Whole.{record_refused, record_reads}
use Rattle.waiting.proofs.refuse_zero.Goals as goal

pub returns-in_err-read : goal.returns-in_err-read
returns-in_err-read c =
    let p = err_from_is_err_and c.from_residual.result c.from_residual.ensures.1 in
    rw (p.1, p.2) (λ row. WaitingList.unreadable (record_refused c.args.bytes.now _ c.in_err-read.ensures))

pub returns : goal.returns
returns c = λ row. WaitingList.key_zero (record_reads c.args.bytes.now _ c.in_ok-read.ensures).1 refl
