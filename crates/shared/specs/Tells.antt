-- A test against the statement that it decides.
use Rattle.std.specs.Prelude.{Bool, true, false}

-- the test answers whether the statement holds
abbrev pub Tells : Bool → Type 0 → Type 0
Tells true A = A
Tells false A = ¬ A
