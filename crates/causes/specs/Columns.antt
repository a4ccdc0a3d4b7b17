-- What the soundness test asks of columns of numbers, a row for each entry.
use Rattle.std.specs.Prelude.{◌≡◌, List, ℕ, ◌<◌, length, get_or}
use Rattle.ccsk.specs.Numbers.{In}
use Rattle.ccsk.specs.Term.{Key}

-- every number is a key
abbrev pub Positive : List ℕ → Type 0
Positive ks = (i : ℕ) → i < length ks → 0 < get_or ks i 0

-- every number is below n
abbrev pub Below : ℕ → List ℕ → Type 0
Below n l = (i : ℕ) → i < length l → get_or l i 0 < n

-- the columns of keys, actions, ends, scopes and keys right above have the same length
pub record Square (ks acs es ss us : List ℕ) : Type 0 where
  pub actions : length acs ≡ length ks
  pub ends : length es ≡ length ks
  pub scopes : length ss ≡ length ks
  pub ups : length us ≡ length ks

-- new names f for the keys ks: keys stay keys, and different keys get different names
pub record Faithful (f : Key → ℕ) (ks : List Key) : Type 0 where
  pub keys : (k : Key) → In k ks → (0 < k) × (0 < f k)
  pub apart : (j k : Key) → In j ks → In k ks → f j ≡ f k → j ≡ k
