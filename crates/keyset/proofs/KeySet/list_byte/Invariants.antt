use Prim.Native.Nat.{◌-◌}
use Rattle.keyset.proofs.Listing.{Filling}
use Rattle.keyset.proofs.KeySet.list_byte.Given as goal

abbrev pub invariant-loop-j : goal.invariant-loop-j
invariant-loop-j l = Filling l.self.bytes l.initial.row l.i l.m l.j l.n l.row

abbrev pub decreases-loop-j : goal.decreases-loop-j
decreases-loop-j l = 8 - l.j
