-- `scan` meets its contract: at each node the keys passed so far are marked and counted, by the laws of Passing.
use mathlib.Core.Path.{refl}
use Rattle.keys.proofs.AtNode.{due_within}
use Rattle.keys.proofs.Passing.{start, onward, scanned}
use Rattle.keys.proofs.scan.Goals as goal

pub loop-at-init : goal.loop-at-init
loop-at-init c = start c.args.bytes.now c.args.marks.now.bytes c.requires.readable c.requires.holds

pub keyed_at-node-requires : goal.keyed_at-node-requires
keyed_at-node-requires c = due_within c.args.bytes.now c.loop-at.at c.loop-at-test.true _ c.loop-at.invariant.due

pub loop-at-preserved : goal.loop-at-preserved
loop-at-preserved c = rw c.keyed_at-node.ensures.1 (onward c.args.bytes.now c.loop-at.marks.bytes c.loop-at.at c.loop-at.n c.loop-at.invariant c.loop-at-test.true _ c.keyed_at-node.ensures.0 _ _ c.mark-n.ensures _ refl)

pub returns : goal.returns
returns c = scanned c.args.bytes.now c.loop-at.marks.bytes c.loop-at.at c.loop-at.n c.loop-at.invariant c.loop-at-test.false
