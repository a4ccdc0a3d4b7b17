-- `mark` meets its contract: 0 adds nothing, any other key what the set gains, by the laws of Marks.
use Rattle.keys.proofs.Marks.{mark_added}
use Rattle.keys.proofs.mark.Goals as goal

pub returns-else-key-eq-NOT_DONE : goal.returns-else-key-eq-NOT_DONE
returns-else-key-eq-NOT_DONE c = mark_added c.args.marks.now.bytes c.args.key c.ranges.key.fits _ c.add.result c.add.ensures c.if-key-eq-NOT_DONE.false
