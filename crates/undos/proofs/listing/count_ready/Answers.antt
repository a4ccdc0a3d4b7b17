-- `count_ready` meets its contract: m is the length of the list of the first r ranks.
use native.Mathlib.Omega.{arith}
use mathlib.Core.Path.{sym, ◌∙◌}
use mathlib.Core.List.{[]}
use Rattle.undos.proofs.Listings.{counted_nothing, count_one, count_none, listed_few}
use Rattle.undos.proofs.listing.count_ready.Goals as goal
use Rattle.undos.proofs.listing.count_ready.Goals.{then-is_ready, else-is_ready}

pub loop-r-init : goal.loop-r-init
loop-r-init c = counted_nothing c.args.states.now

pub overflow_add-m : goal.overflow_add-m
overflow_add-m c = omega (arith, c.loop-r.invariant [], listed_few c.args.states.now [] c.loop-r.r)

pub loop-r-preserved : goal.loop-r-preserved
loop-r-preserved c x = elim c.if-is_ready.branch [
  | then-is_ready w ↦ rw w.m-is (count_one c.args.states.now x c.loop-r.r c.loop-r.m (sym c.is_ready.ensures ∙ w.if-is_ready.true) (c.loop-r.invariant x))
  | else-is_ready w ↦ rw w.m-is (count_none c.args.states.now x c.loop-r.r c.loop-r.m (sym c.is_ready.ensures ∙ w.if-is_ready.false) (c.loop-r.invariant x))
]
