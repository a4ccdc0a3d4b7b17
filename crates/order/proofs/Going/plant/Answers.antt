-- `plant` meets its contract: leaf by leaf, then the tree.
use native.Mathlib.Omega.{arith}
use lib.Dec.{lit<}
use Rattle.order.proofs.Planting.{all_leaves}
use Rattle.order.proofs.Going.plant.Goals as goal

pub build-requires : goal.build-requires
build-requires c = (lit< tt, rw c.loop-r.invariant.0 (all_leaves _ _ _ _ _ c.loop-r.invariant.2 c.loop-r-test.false c.requires.0 (omega arith) (omega arith)))
