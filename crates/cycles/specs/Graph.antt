-- A relation on the numbers below n, given by two columns: for each number what stands right above it, once or twice; 0 is nothing.
use Rattle.std.specs.Prelude.{◌≡◌, ◌⊎◌, List, ℕ, ◌≤◌, ◌<◌, length, get_or}
use Rattle.sound.specs.Sound.{Chain}
use Rattle.causes.specs.Columns.{Below}

-- m stands right above n
abbrev pub Over : List ℕ → List ℕ → ℕ → ℕ → Type 0
Over one two m n = (0 < m) × (n < length one) × ((m ≡ get_or one n 0) ⊎ (m ≡ get_or two n 0))

-- going down never leads back
abbrev pub Acyclic : List ℕ → List ℕ → Type 0
Acyclic one two = (m : ℕ) → ¬ Chain (Over one two) m m

-- two columns of the same length, over the numbers below it; nothing stands above 0
pub record Columns (one two : List ℕ) : Type 0 where
  pub alike : length two ≡ length one
  pub some : 0 < length one
  pub few : length one ≤ 32767
  pub below_one : Below (length one) one
  pub below_two : Below (length one) two
  pub root_one : get_or one 0 0 ≡ 0
  pub root_two : get_or two 0 0 ≡ 0
