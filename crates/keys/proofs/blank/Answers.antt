-- `blank` meets its contract: the reader decides whether there is a record to wipe.
use Rattle.std.proofs.lemmas.Result.{err_from_is_err_and}
use Rattle.operations.specs.Change.{BlankForm}
use Rattle.keys.proofs.Marks.{holds_none}
use Rattle.reader.proofs.Whole.{record_refused, slice_bytes}
use Rattle.keys.proofs.Reading.{was_read}
use Rattle.keys.proofs.Answers.{blanked}
use Rattle.keys.proofs.blank.Goals as goal

pub returns-in_err-read : goal.returns-in_err-read
returns-in_err-read c = let p = err_from_is_err_and c.from_residual.result c.from_residual.ensures.1 in
    rw (p.1, p.2) (BlankForm.unreadable (record_refused c.args.bytes.now _ c.in_err-read.ensures))

pub wipe-requires-clause-readable : goal.wipe-requires-clause-readable
wipe-requires-clause-readable c = was_read c.args.bytes.now _ c.in_ok-read.ensures (slice_bytes c.args.bytes.now (λ i. (c.slice_known-1.given i).fits))

pub wipe-requires-clause-holds : goal.wipe-requires-clause-holds
wipe-requires-clause-holds c = rw c.new.ensures holds_none

pub returns : goal.returns
returns c = blanked c.args.bytes.now _ _ c.wipe.ensures.0 _ c.wipe.ensures.1
