-- `advance` meets its contract: each way on from the node that is due is one law of Promise.
use Rattle.cursor.proofs.Promise.{goes_idle, idle_deep, idle_full, moves_leaf, moves_one, moves_two}
use Rattle.cursor.proofs.Cursor.advance.Goals as goal

pub returns-then-children-eq0 : goal.returns-then-children-eq0
returns-then-children-eq0 c = moves_leaf c.args.bytes.now c.args.self.now _ _ _ c.in-Some.ensures c.stand.new.self c.if-children-eq0.true c.stand.ensures

pub returns-then-depth-ge-LEVELS : goal.returns-then-depth-ge-LEVELS
returns-then-depth-ge-LEVELS c = goes_idle c.args.bytes.now c.args.self.now (idle_deep c.args.bytes.now c.args.self.now _ _ _ c.in-Some.ensures c.if-children-eq0.false c.if-depth-ge-LEVELS.true)

pub returns-then-children-eq1 : goal.returns-then-children-eq1
returns-then-children-eq1 c = moves_one c.args.bytes.now c.args.self.now _ _ _ c.in-Some.ensures c.stand-then-children-eq1.new.self c.if-children-eq1.true c.stand-then-children-eq1.ensures

pub returns-then-many-ge-DEPTH : goal.returns-then-many-ge-DEPTH
returns-then-many-ge-DEPTH c = goes_idle c.args.bytes.now c.args.self.now (idle_full c.args.bytes.now c.args.self.now _ _ _ c.in-Some.ensures c.if-children-eq0.false c.if-many-ge-DEPTH.true)

pub returns : goal.returns
returns c = moves_two c.args.bytes.now c.args.self.now _ _ _ c.in-Some.ensures c.stand-2.new.self c.if-children-eq0.false c.if-children-eq1.false c.stand-2.ensures
