-- `fill` meets its contract: the keys were counted before, and are written only where the row is long enough.
use Rattle.keyset.specs.Set.{members_below}
use Rattle.rows.proofs.Filling.{too_short, filled_front}
use Rattle.rows.proofs.fill.Goals as goal

pub returns-then-row-n : goal.returns-then-row-n
returns-then-row-n c = too_short (members_below c.args.marks.now.bytes 65536) c.args.row.now c.args.n c.requires c.if-row-n.true

pub returns : goal.returns
returns c = filled_front (members_below c.args.marks.now.bytes 65536) c.args.row.now c.args.n c.requires c.if-row-n.false _ c.list.ensures
