-- `index` meets its contract: the rows before the loop's have been entered.
use lib.ListN.{length}
use Rattle.pairs.proofs.Indexing.{none_indexed, one_indexed, third_row}
use Rattle.pairs.proofs.index.Goals as goal

pub loop-row-init : goal.loop-row-init
loop-row-init c = none_indexed c.args.keys.now c.args.rows.now c.requires.zero.0 c.requires.zero.1

pub returns-then-not-enter : goal.returns-then-not-enter
returns-then-not-enter c = third_row c.args.keys.now c.loop-row.rows c.loop-row.row c.from.result c.loop-row-test.true c.from.ensures (length c.args.rows.now) c.loop-row.auto.rows c.requires.below c.loop-row.invariant c.enter.new.rows c.enter.result c.enter.ensures c.if-not-enter.true

pub loop-row-preserved : goal.loop-row-preserved
loop-row-preserved c = one_indexed c.args.keys.now c.loop-row.rows c.loop-row.row c.from.result c.loop-row-test.true c.from.ensures (length c.args.rows.now) c.loop-row.auto.rows c.requires.below c.loop-row.invariant c.enter.new.rows c.enter.result c.enter.ensures c.if-not-enter.false
