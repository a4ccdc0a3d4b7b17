-- `least_free` meets its contract: with 0 put in, the least number missing from the set is the least free key.
use Rattle.std.proofs.lemmas.Result.{err_from_is_err_and}
use Rattle.operations.specs.Ask.{FreeKey}
use Rattle.keys.proofs.Marks.{holds_none}
use Rattle.keys.proofs.Answers.{some_missing, freed}
use Rattle.keys.proofs.least_free.Goals as goal

pub gather-requires : goal.gather-requires
gather-requires c = rw c.new-marks.ensures holds_none

pub returns-in_err-gather : goal.returns-in_err-gather
returns-in_err-gather c = let p = err_from_is_err_and c.from_residual.result c.from_residual.ensures.1 in
    rw (p.1, p.2) (FreeKey.unreadable c.in_err-gather.ensures)

pub least_missing-requires : goal.least_missing-requires
least_missing-requires c = some_missing c.args.bytes.now _ _ c.in_ok-gather.ensures _ c.add.ensures.result

pub returns : goal.returns
returns c = rw c.from.ensures (freed c.args.bytes.now _ _ c.in_ok-gather.ensures _ c.add.ensures.result c.least_missing.result c.least_missing.ensures)
