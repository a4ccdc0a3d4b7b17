-- Tests against the statements that they decide.
use mathlib.Core.Path.{◌≡◌, refl}
use mathlib.Core.Logic.{◌↔◌}
use mathlib.Core.Bool.{Bool, true, false, false≢true}
use Rattle.shared.specs.Tells.{Tells}

-- a test that tells whether a statement holds is true exactly if it does
pub tells_iff : {A : Type 0} (b : Bool) → Tells b A → (b ≡ true) ↔ A
tells_iff true a = (λ e. a, λ z. refl)
tells_iff false f = (λ e. absurd (false≢true e), λ a. absurd (f a))
