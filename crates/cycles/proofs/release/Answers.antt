-- `release` meets its contract: the counter falls by one, and the number goes into the queue if that makes it 0.
use Rattle.cycles.proofs.Steps.{release_fell, release_free}
use Rattle.cycles.proofs.release.Goals as goal

pub returns-then-left-eq0 : goal.returns-then-left-eq0
returns-then-left-eq0 c = release_free c.args.u c.from-at.result c.args.counters.now c.args.queue.now c.args.tail c.from-at.ensures c.requires.nonzero c.if-left-eq0.true

pub returns-else-left-eq0 : goal.returns-else-left-eq0
returns-else-left-eq0 c = release_fell c.args.u c.from-at.result c.args.counters.now c.args.queue.now c.args.tail c.from-at.ensures c.requires.nonzero c.if-left-eq0.false
