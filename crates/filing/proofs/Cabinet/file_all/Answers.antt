-- `file_all` meets its contract: up to each node the bytes were read and the links filed, by the laws of Filling.
use mathlib.Core.Path.{◌≡◌, refl, subst}
use native.Mathlib.Omega.{arith}
use Rattle.reader.proofs.Whole.{slice_bytes}
use Rattle.reader.proofs.Due.{more_bytes}
use Rattle.filing.specs.Record.{Stands}
use Rattle.filing.proofs.Filling.{start, onward, told, all_filed, up_to}
use Rattle.filing.proofs.Cabinet.file_all.Goals as goal

pub loop-many-init : goal.loop-many-init
loop-many-init c = start c.args.bytes.now c.args.key c.args.self.now _ refl refl c.requires.empty

pub loop-many-preserved : goal.loop-many-preserved
loop-many-preserved c = onward _ _ _ _ _ _ _ _ _ _ c.loop-many.invariant c.loop-many-test.true _ _ _ _ c.in_ok-head.ensures c.requires.key_nonzero c.key_at-here.result c.key_at-here.ensures _ refl _ _ c.file-links.ensures c.below.result c.below.ensures _ _ c.push-many.ensures

pub returns-then-at-bytes : goal.returns-then-at-bytes
returns-then-at-bytes c = more_bytes c.args.bytes.now c.loop-many.due c.loop-many.many c.loop-many.left c.loop-many.at c.loop-many.invariant.remains (omega (arith, c.loop-many-test.false)) c.if-at-bytes.true

pub returns-then-met : goal.returns-then-met
returns-then-met c =
    let b = slice_bytes c.args.bytes.now (λ i. omega (arith, c.type_inv.bytes i)) in
    let none : c.loop-many.many ≡ 0 = omega (arith, c.loop-many-test.false) in (
      subst (Stands c.args.bytes.now c.args.key) c.if-met.true (told _ _ _ _ _ _ _ _ _ _ c.loop-many.invariant none c.if-at-bytes.false b c.requires.key_nonzero),
      all_filed _ _ _ _ _ _ _ _ _ _ c.loop-many.invariant none c.if-at-bytes.false b,
      up_to _ _ _ _ _ _ _ _ _ _ c.loop-many.invariant none c.if-at-bytes.false b,
    )

pub returns-else-met : goal.returns-else-met
returns-else-met c = subst (Stands c.args.bytes.now c.args.key) c.if-met.false (told _ _ _ _ _ _ _ _ _ _ c.loop-many.invariant (omega (arith, c.loop-many-test.false)) c.if-at-bytes.false (slice_bytes c.args.bytes.now (λ i. omega (arith, c.type_inv.bytes i))) c.requires.key_nonzero)
