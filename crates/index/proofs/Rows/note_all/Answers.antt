-- `note_all` meets its contract: up to each node the bytes were read and the lines noted, by the laws of Noting.
use mathlib.Core.Path.{refl}
use native.Mathlib.Omega.{arith}
use Prim.Native.Nat.{◌-◌}
use Rattle.format.specs.Limits.{node_limit}
use Rattle.reader.proofs.Whole.{slice_bytes}
use Rattle.reader.proofs.Due.{more_bytes}
use Rattle.index.proofs.Noting.{start, onward, noted}
use Rattle.index.proofs.Rows.note_all.Goals as goal

pub loop-many-init : goal.loop-many-init
loop-many-init c = start c.args.bytes.now c.args.self.now.forms c.args.self.now.args c.args.holds.now _ refl refl (omega arith, omega arith, omega arith)

pub loop-many-preserved : goal.loop-many-preserved
loop-many-preserved c = onward c.loop-many.invariant _ _ _ c.in_ok-head.ensures c.keyless.ensures c.byte_after.ensures.0 c.key_at.ensures

pub returns-then-at-bytes : goal.returns-then-at-bytes
returns-then-at-bytes c = more_bytes c.args.bytes.now c.loop-many.due c.loop-many.many (node_limit - c.loop-many.count) c.loop-many.at c.loop-many.invariant.remains (omega (arith, c.loop-many-test.false)) c.if-at-bytes.true

pub returns : goal.returns
returns c = noted c.loop-many.invariant (omega (arith, c.loop-many-test.false)) c.if-at-bytes.false (slice_bytes c.args.bytes.now (λ i. omega (arith, c.type_inv.bytes i)))
