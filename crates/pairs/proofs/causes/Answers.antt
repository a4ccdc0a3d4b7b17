-- `causes` meets its contract: before each turn the answer is right for the numbers before the loop's.
use native.Mathlib.Omega.{arith}
use Rattle.pairs.proofs.Lowest.{placed_at, one_below, all_below}
use Rattle.pairs.proofs.causes.Goals as goal

pub cause-requires-clause-placed : goal.cause-requires-clause-placed
cause-requires-clause-placed c = placed_at c.args.columns.now.actions.now c.args.columns.now.ends.now c.args.columns.now.scopes.now c.args.rows.now c.loop-two.two-index c.requires.placed c.loop-two-test.true

pub loop-two-preserved : goal.loop-two-preserved
loop-two-preserved c = rw c.lower-least.ensures (one_below c.args.columns.now.actions.now c.args.columns.now.ends.now c.args.columns.now.scopes.now c.args.rows.now c.loop-two.two-index c.loop-two.least c.cause.result c.loop-two.invariant c.cause.ensures)

pub returns : goal.returns
returns c = all_below c.args.columns.now.actions.now c.args.columns.now.ends.now c.args.columns.now.scopes.now c.args.rows.now c.loop-two.two-index c.loop-two.least (omega arith) c.loop-two.auto.two-index-end c.loop-two.invariant
