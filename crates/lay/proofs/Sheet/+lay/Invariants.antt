use Prim.Native.Nat.{◌-◌}
use lib.ListN.{length}
use Rattle.lay.proofs.Sheet.+lay.Given as goal

abbrev pub decreases-lay : goal.decreases-lay
decreases-lay l = length l.s.now - l.place.now.at
