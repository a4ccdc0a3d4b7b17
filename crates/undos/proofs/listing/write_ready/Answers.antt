-- `write_ready` meets its contract: the list of the first r ranks stands at the front of the row.
use mathlib.Core.Path.{sym, ◌∙◌}
use Rattle.undos.proofs.Listings.{front_start, front_ready, front_other, front_room}
use Rattle.undos.proofs.listing.write_ready.Goals as goal
use Rattle.undos.proofs.listing.write_ready.Goals.{then-is_ready, else-is_ready}

pub loop-r-init : goal.loop-r-init
loop-r-init c = front_start c.args.states.now c.args.slots.now c.args.row.now

pub bounds-row-m : goal.bounds-row-m
bounds-row-m c = front_room c.args.states.now c.args.slots.now c.args.row.now c.loop-r.r c.loop-r.m c.loop-r.row c.loop-r.invariant c.args.n c.loop-r-test.true c.requires.1 (sym c.is_ready.ensures ∙ c.if-is_ready.true)

pub loop-r-preserved : goal.loop-r-preserved
loop-r-preserved c = elim c.if-is_ready.branch [
  | then-is_ready w ↦ let z = sym c.is_ready.ensures ∙ w.if-is_ready.true in
      rw (w.row-is, w.m-is) (front_ready c.args.states.now c.args.slots.now c.args.row.now c.loop-r.r c.loop-r.m c.loop-r.row c.loop-r.invariant z (front_room c.args.states.now c.args.slots.now c.args.row.now c.loop-r.r c.loop-r.m c.loop-r.row c.loop-r.invariant c.args.n c.loop-r-test.true c.requires.1 z))
  | else-is_ready w ↦ rw (w.row-is, w.m-is) (front_other c.args.states.now c.args.slots.now c.args.row.now c.loop-r.r c.loop-r.m c.loop-r.row c.loop-r.invariant (sym c.is_ready.ensures ∙ w.if-is_ready.false))
]
