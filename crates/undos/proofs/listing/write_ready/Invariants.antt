use Rattle.undos.proofs.Listings.{Front}
use Rattle.undos.proofs.listing.write_ready.Given as goal

abbrev pub invariant-loop-r : goal.invariant-loop-r
invariant-loop-r l = Front l.states l.slots l.initial.row l.r l.m l.row
