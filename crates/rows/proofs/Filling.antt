-- A list goes to the front of a row, or the row is too short for it.
use mathlib.Core.Path.{◌≡◌}
use mathlib.Core.List.{List}
use Prim.Native.Nat.{ℕ, ◌≤◌, ◌<◌}
use native.Mathlib.Omega.{arith}
use lib.ListN.{length}
use Rattle.operations.specs.Ask.{Filled}
use Rattle.keyset.specs.Set.{Fronted}

module _ (l row : List ℕ) (n : ℕ) (e : n ≡ length l) where
  pub too_short : length row < n → Filled l row 9 0 row
  too_short h = Filled.short (omega arith)

  pub filled_front : n ≤ length row → (row' : List ℕ) → Fronted l row row' → Filled l row 0 n row'
  filled_front h row' f = rw (e, f) (Filled.filled (omega arith))
