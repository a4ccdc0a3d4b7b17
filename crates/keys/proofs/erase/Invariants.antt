use Prim.Native.Nat.{◌-◌}
use lib.ListN.{length}
use Rattle.keys.proofs.Clearing.{Clearing}
use Rattle.keyset.specs.Set.{member}
use Rattle.keys.proofs.erase.Given as goal

abbrev pub invariant-loop-at : goal.invariant-loop-at
invariant-loop-at l = Clearing (member l.marks.bytes) l.initial.bytes l.bytes l.at

abbrev pub decreases-loop-at : goal.decreases-loop-at
decreases-loop-at l = length l.bytes - l.at
