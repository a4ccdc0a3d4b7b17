-- `wipe` meets its contract: at each node the keys passed so far are marked and counted, by the laws of Passing on the record as it was,
-- and the front of the bytes is the blank form's, by the laws of Clearing.
use native.Mathlib.Omega.{arith}
use mathlib.Core.Path.{refl, ◌∙◌}
use mathlib.Core.Bool.{true}
use Rattle.keys.proofs.AtNode.{due_within, key_inside}
use Rattle.keys.proofs.Passing.{start, onward, scanned}
use Rattle.keys.proofs.Clearing as clearing
use Rattle.keys.proofs.wipe.Goals as goal

pub loop-at-init : goal.loop-at-init
loop-at-init c = (start c.args.bytes.now c.args.marks.now.bytes c.requires.readable c.requires.holds, clearing.start (λ k. true) c.args.bytes.now c.requires.readable)

pub keyed_at-node-requires : goal.keyed_at-node-requires
keyed_at-node-requires c = due_within c.loop-at.bytes c.loop-at.at c.loop-at-test.true _ c.loop-at.invariant.1.due

pub clear_at-requires : goal.clear_at-requires
clear_at-requires c = (c.loop-at-test.true, key_inside c.loop-at.bytes c.loop-at.at (due_within c.loop-at.bytes c.loop-at.at c.loop-at-test.true _ c.loop-at.invariant.1.due))

pub overflow_add-n : goal.overflow_add-n
overflow_add-n c = omega (arith, c.loop-at.invariant.0.few, c.mark-n.ensures.one)

pub loop-at-preserved : goal.loop-at-preserved
loop-at-preserved c = rw c.keyed_at-node.ensures.1 (onward c.args.bytes.now c.loop-at.marks.bytes c.loop-at.at c.loop-at.n c.loop-at.invariant.0 (omega (arith, c.loop-at-test.true, c.loop-at.invariant.1.same)) _ (c.keyed_at-node.ensures.0 ∙ clearing.same_key (λ k. true) c.args.bytes.now c.loop-at.bytes c.loop-at.at c.loop-at.invariant.1) _ _ c.mark-n.ensures _ (clearing.same_kind (λ k. true) c.args.bytes.now c.loop-at.bytes c.loop-at.at c.loop-at.invariant.1), clearing.onward (λ k. true) c.args.bytes.now c.loop-at.bytes c.loop-at.at c.loop-at.invariant.1 c.loop-at-test.true _ refl true refl _ c.clear_at.ensures)

pub returns : goal.returns
returns c = (scanned c.args.bytes.now c.loop-at.marks.bytes c.loop-at.at c.loop-at.n c.loop-at.invariant.0 (omega (arith, c.loop-at-test.false, c.loop-at.invariant.1.same)), clearing.cleared c.args.bytes.now c.loop-at.bytes (clearing.erased (λ k. true) c.args.bytes.now c.loop-at.bytes c.loop-at.at c.loop-at.invariant.1 c.loop-at-test.false))
