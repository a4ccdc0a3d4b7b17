use mathlib.Core.Path.{◌≡◌}
use mathlib.Core.List.{List}
use Prim.Native.Nat.{ℕ}
use lib.ListN.{length}
use Rattle.undos.specs.Rows.{listed}
use Rattle.undos.proofs.listing.count_ready.Given as goal

abbrev pub invariant-loop-r : goal.invariant-loop-r
invariant-loop-r l = (slots : List ℕ) → l.m ≡ length (listed l.states slots l.r)
