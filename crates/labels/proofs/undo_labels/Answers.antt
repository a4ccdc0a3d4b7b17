-- `undo_labels` meets its contract: a node that holds a key is a prefix, and its action is noted; at each node the labels of what was passed
-- are gathered, by the laws of Gathering.
use mathlib.Core.Path.{refl}
use Rattle.keys.proofs.AtNode.{due_within}
use Rattle.labels.proofs.Gathering.{start, onward, labelled, passes_none, passes_noted}
use Rattle.labels.proofs.undo_labels.Goals as goal

pub loop-at-init : goal.loop-at-init
loop-at-init c = start c.args.bytes.now c.args.row.now c.args.labels.now c.requires.readable c.requires.rising.2

pub keyed_at-node-requires : goal.keyed_at-node-requires
keyed_at-node-requires c = due_within c.args.bytes.now c.loop-at.at c.loop-at-test.true _ c.loop-at.invariant.due

pub loop-at-preserved-then-node-ne-NOT_DONE : goal.loop-at-preserved-then-node-ne-NOT_DONE
loop-at-preserved-then-node-ne-NOT_DONE c = rw c.keyed_at-node.ensures.1 (onward c.args.bytes.now c.args.row.now c.loop-at.labels c.loop-at.at c.loop-at.invariant c.loop-at-test.true _
    (passes_noted c.args.bytes.now c.loop-at.at c.loop-at-test.true c.args.row.now c.requires.rising.0 c.keyed_at-node.result.key c.keyed_at-node.ensures.0 c.loop-at.labels c.if-node-ne-NOT_DONE.true _ c.note.ensures) _ refl)

pub loop-at-preserved : goal.loop-at-preserved
loop-at-preserved c = rw c.keyed_at-node.ensures.1 (onward c.args.bytes.now c.args.row.now c.loop-at.labels c.loop-at.at c.loop-at.invariant c.loop-at-test.true _
    (passes_none c.args.bytes.now c.loop-at.at c.loop-at-test.true c.args.row.now c.requires.rising.0 c.keyed_at-node.result.key c.keyed_at-node.ensures.0 c.loop-at.labels c.if-node-ne-NOT_DONE.false) _ refl)

pub returns : goal.returns
returns c = labelled c.args.bytes.now c.args.row.now c.loop-at.labels c.loop-at.at c.loop-at.invariant c.loop-at-test.false
