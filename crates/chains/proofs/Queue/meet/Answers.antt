-- `meet` meets its contract: a link is passed, or its lower key goes into the set and the queue.
use Rattle.chains.specs.Reach.{other, asked, meets}
use Rattle.chains.proofs.Queue.meet.Goals as goal
use Rattle.chains.proofs.Queue.meet.Goals.{else-upper-from-via-then-upper-from+else-lower-asked, else-upper-from-via-else-upper-from}

pub returns-then-lower-asked : goal.returns-then-lower-asked
returns-then-lower-asked c = meets c.if-upper-from.true c.if-lower-asked.true c.add-new.ensures

pub returns-else-upper-from : goal.returns-else-upper-from
returns-else-upper-from c = elim c.else-upper-from.branch [
  | else-upper-from-via-then-upper-from+else-lower-asked w ↦ asked w.if-lower-asked.false
  | else-upper-from-via-else-upper-from w ↦ other w.if-upper-from.false
]
