-- The answer of the cycle test: all numbers but 0 have been taken out.
use mathlib.Core.Path.{◌≡◌}
use mathlib.Core.Logic.{◌↔◌}
use mathlib.Core.Bool.{true}
use Prim.Native.Nat.{ℕ, ◌+◌, ◌-◌, ◌<◌}
use native.Mathlib.Omega.{arith}
use borrow.Author.Tests.{eqb-true, eq-eqb}
use lib.Dec.{eqb}

-- the answer
pub answer : (n r : ℕ) (A : Type 0) → 0 < n → (r + 1 ≡ n) ↔ A → (eqb r (n - 1) ≡ true) ↔ A
answer n r A h f = (λ e. f.0 (omega (arith, eqb-true r (n - 1) e)), λ a. eq-eqb r (n - 1) (omega (arith, f.1 a)))
