-- Renaming a column: the numbers before a place have their new names.
use mathlib.Core.Path.{◌≡◌}
use mathlib.Core.List.{List}
use Prim.Native.Nat.{ℕ, ◌≤◌, ◌<◌}
use lib.ListN.{length, get_or}

-- the numbers before place j have their new names, the others are as they were
abbrev pub Renaming : (ℕ → ℕ) → List ℕ → List ℕ → ℕ → Type 0
Renaming f c₀ c j = (k : ℕ) → k < length c₀ → ((k < j → get_or c k 0 ≡ f (get_or c₀ k 0)) × (j ≤ k → get_or c k 0 ≡ get_or c₀ k 0))
