-- `erase` meets its contract: the front of the bytes is the erased term's, by the laws of Clearing.
use mathlib.Core.Path.{refl, ap, ◌∙◌}
use Rattle.keys.proofs.AtNode.{due_within, key_inside}
use Rattle.keys.proofs.Clearing.{erased, erased_there, erased_not, onward, start}
use Rattle.keyset.specs.Set.{member}
use Rattle.keys.proofs.erase.Goals as goal

pub loop-at-init : goal.loop-at-init
loop-at-init c = start (member c.args.marks.now.bytes) c.args.bytes.now c.requires

pub keyed_at-node-requires : goal.keyed_at-node-requires
keyed_at-node-requires c = due_within c.loop-at.bytes c.loop-at.at c.loop-at-test.true _ c.loop-at.invariant.due

pub clear_at-requires : goal.clear_at-requires
clear_at-requires c = (c.loop-at-test.true, key_inside c.loop-at.bytes c.loop-at.at (due_within c.loop-at.bytes c.loop-at.at c.loop-at-test.true _ c.loop-at.invariant.due))

pub loop-at-preserved-then-has : goal.loop-at-preserved-then-has
loop-at-preserved-then-has c = let e = c.has.ensures ∙ ap (member c.args.marks.now.bytes) c.keyed_at-node.ensures.0 in
    rw c.keyed_at-node.ensures.1 (onward (member c.args.marks.now.bytes) c.args.bytes.now c.loop-at.bytes c.loop-at.at c.loop-at.invariant c.loop-at-test.true _ refl _ refl _ (erased_there c.loop-at.bytes c.loop-at.at _ c.has.result e c.if-has.true _ c.clear_at.ensures))

pub loop-at-preserved : goal.loop-at-preserved
loop-at-preserved c = let e = c.has.ensures ∙ ap (member c.args.marks.now.bytes) c.keyed_at-node.ensures.0 in
    rw c.keyed_at-node.ensures.1 (onward (member c.args.marks.now.bytes) c.args.bytes.now c.loop-at.bytes c.loop-at.at c.loop-at.invariant c.loop-at-test.true _ refl _ refl _ (erased_not c.loop-at.bytes c.loop-at.at _ c.has.result e c.if-has.false))

pub returns : goal.returns
returns c = erased (member c.args.marks.now.bytes) c.args.bytes.now c.loop-at.bytes c.loop-at.at c.loop-at.invariant c.loop-at-test.false
