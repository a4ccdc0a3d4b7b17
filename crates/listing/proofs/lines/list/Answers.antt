-- `list` answers what the record came to, by what indexing it answered; the rows that are filled and marked are those of the record.
use mathlib.Core.Path.{sym, subst}
use Rattle.operations.specs.Ask.{ReadRecord, unreadable, done}
use Rattle.wanted.proofs.Noting.{covers_full}
use Rattle.listing.proofs.lines.list.Goals as goal

pub put_steps-requires-clause-covers : goal.put_steps-requires-clause-covers
put_steps-requires-clause-covers c = c.mark.ensures.covers (covers_full 4097 c.full-sets.ensures)

pub returns-in-Err : goal.returns-in-Err
returns-in-Err c = unreadable c.in-Err.ensures

pub returns-in-Ok : goal.returns-in-Ok
returns-in-Ok c = subst (ReadRecord c.args.bytes.now 0) (sym c.in-Ok.ensures.2.count) (done c.in-Ok.ensures.1)
