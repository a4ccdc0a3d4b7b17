-- `list_waiting` meets its contract: filing decides the refusals, and otherwise the keys that links lead to are those that the key waits for.
use Rattle.std.proofs.lemmas.Result.{err_from_is_err_and}
use Rattle.operations.specs.Ask.{WaitingList}
use Rattle.waiting.proofs.Answers.{to_keys_lem, answered}
use Rattle.waiting.proofs.list_waiting.Goals as goal

pub returns-in_err-file_all : goal.returns-in_err-file_all
returns-in_err-file_all c =
    let p = err_from_is_err_and c.from_residual.result c.from_residual.ensures.1 in
    rw (p.1, p.2) (WaitingList.unreadable c.in_err-file_all.ensures)

pub list_reached-requires-clause-to_keys : goal.list_reached-requires-clause-to_keys
list_reached-requires-clause-to_keys c =
    let f = rw c.in-Some.is at c.in_ok-file_all.ensures in
    to_keys_lem c.args.bytes.now _ f.1

pub returns-in-None : goal.returns-in-None
returns-in-None c =
    let f = rw c.in-None.is at c.in_ok-file_all.ensures in
    WaitingList.key_absent f.1.reads c.requires f.2

pub returns-in-Some : goal.returns-in-Some
returns-in-Some c =
    let f = rw c.in-Some.is at c.in_ok-file_all.ensures in
    answered c.args.bytes.now _ f.1 c.args.key _ _ _ _ c.requires f.0 c.list_reached.ensures
