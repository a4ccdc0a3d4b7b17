-- `fill` meets its contract: n is the rank of byte i's first number, and the ranks of all bytes before are written down; once all members
-- are ranked, these bytes hold them all.
use native.Mathlib.Omega.{arith}
use mathlib.Core.Path.{sym, ◌∙◌}
use Prim.Native.Nat.{◌+◌, ◌*◌}
use lib.ListN.{length-set}
use Rattle.rank.proofs.Ranks.{rank_bound, rank_ordered}
use Rattle.rank.proofs.Steps.{none_ranked, passed_none, passed_empty, passed_byte, all_ranked}
use Rattle.rank.proofs.fill.Goals as goal
use Rattle.rank.proofs.fill.Goals.{then-set-i-ne0+else-n-many, else-set-i-ne0}

pub returns-then-many-eq0 : goal.returns-then-many-eq0
returns-then-many-eq0 c = none_ranked c.args.set.now.bytes c.args.base.now (sym c.if-many-eq0.true ∙ c.requires)

pub loop-i-init : goal.loop-i-init
loop-i-init c = (omega arith, passed_none c.args.set.now.bytes c.args.base.now)

pub overflow_cast-base : goal.overflow_cast-base
overflow_cast-base c = omega (arith, c.loop-i.invariant.1.next, rank_bound c.args.set.now.bytes (c.loop-i.i * 8))

pub returns-then-n-many : goal.returns-then-n-many
returns-then-n-many c = let P = passed_byte c.args.set.now.bytes c.loop-i.base c.loop-i.i c.loop-i.n c.loop-i.invariant.1 (omega (arith, c.loop-i.invariant.0, c.loop-i-test.true)) c.climb-n.result c.climb-n.ensures in
    all_ranked c.args.set.now.bytes _ (c.loop-i.i + 1) c.climb-n.result P c.args.many c.requires (omega (arith, c.if-n-many.true))

pub loop-i-preserved : goal.loop-i-preserved
loop-i-preserved c = elim c.if-set-i-ne0.branch [
  | then-set-i-ne0+else-n-many w ↦ rw (w.base-is, w.n-is) (simp length-set c.loop-i.invariant.0, passed_byte c.args.set.now.bytes c.loop-i.base c.loop-i.i c.loop-i.n c.loop-i.invariant.1 (omega (arith, c.loop-i.invariant.0, c.loop-i-test.true)) w.climb-n.result w.climb-n.ensures)
  | else-set-i-ne0 w ↦ rw (w.base-is, w.n-is) (c.loop-i.invariant.0, passed_empty c.args.set.now.bytes c.loop-i.base c.loop-i.i c.loop-i.n c.loop-i.invariant.1 w.if-set-i-ne0.false)
]

pub returns : goal.returns
returns c = all_ranked c.args.set.now.bytes c.loop-i.base c.loop-i.i c.loop-i.n c.loop-i.invariant.1 c.args.many c.requires (omega (arith, c.requires, c.loop-i.invariant.1.next, rank_ordered c.args.set.now.bytes 65536 (c.loop-i.i * 8) (omega (arith, c.loop-i-test.false))))
