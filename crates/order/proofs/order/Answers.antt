-- `order` meets its contract: the rows are threaded, the tree is planted, and the keys are taken out.
use native.Mathlib.Omega.{arith}
use Rattle.order.proofs.Whole.{listable, ready, room, scene, sorted, state}
use Rattle.order.proofs.order.Goals as goal

pub list-requires : goal.list-requires
list-requires c = (listable _ _ _ _ _ c.requires.sortable, c.requires.sortable.few)

pub thread_all-requires-clause-ready : goal.thread_all-requires-clause-ready
thread_all-requires-clause-ready c = rw c.of-ranks.ensures (ready _ _ _ _ _ c.requires.sortable _ c.requires.older_len.0)

pub peel-requires-clause-peelable : goal.peel-requires-clause-peelable
peel-requires-clause-peelable c =
    let t = rw c.of-ranks.ensures at c.thread_all.ensures.threaded in
    let r = room _ _ _ _ _ c.requires.sortable in
    rw (c.plant.ensures.1, c.plant.ensures.2) (
      scene _ _ _ _ _ c.requires.sortable _ _ c.list.ensures _ _ _ _ t c.plant.ensures.0 (omega (arith, r)),
      state _ _ _ _ _ c.requires.sortable _ _ c.list.ensures _ _ _ _ t c.plant.ensures.0 (omega (arith, r)),
    )

pub returns-clause-sorted : goal.returns-clause-sorted
returns-clause-sorted c =
    let t = rw c.of-ranks.ensures at c.thread_all.ensures.threaded in
    let r = room _ _ _ _ _ c.requires.sortable in
    sorted _ _ _ _ _ c.requires.sortable _ _ c.list.ensures _ _ _ _ t c.plant.ensures.0 (omega (arith, r)) _ _ (rw (c.plant.ensures.1, c.plant.ensures.2) at c.peel.ensures)
