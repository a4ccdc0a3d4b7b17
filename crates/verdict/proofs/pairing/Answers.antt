-- `pairing` meets its contract: what `index` and `causes` answer is what it answers.
use Rattle.verdict.proofs.Calls.{causes_asked, all_noted}
use Rattle.verdict.proofs.pairing.Goals as goal

pub causes-requires-clause-placed : goal.causes-requires-clause-placed
causes-requires-clause-placed c = causes_asked c.args.columns.now c.args.rows.now c.index.new.rows c.requires c.index.result c.index.ensures c.if-index.true

pub returns-then-index : goal.returns-then-index
returns-then-index c = all_noted c.args.columns.now c.args.rows.now c.index.new.rows c.requires c.index.result c.index.ensures c.if-index.true c.causes.result c.causes.ensures
