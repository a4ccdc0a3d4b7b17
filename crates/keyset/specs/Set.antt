-- A set of numbers as a list of bytes: number k is bit k % 8 of byte k / 8.
use Rattle.std.specs.Prelude.{◌≡◌, List, [], ◌∷◌, ◌++◌, Bool, true, false, cond, ℕ, zero, suc, ◌+◌, ◌*◌, ◌<◌, ◌/◌, ◌%◌, eqb, length, get_or, set, drop}

-- bit i of a number: halved i times, is it odd?
unfoldable pub bit : ℕ → ℕ → ℕ
bit b zero = b % 2
bit b (suc i) = bit (b / 2) i

-- the number that has bit i alone
unfoldable pub power : ℕ → ℕ
power zero = 1
power (suc i) = 2 * power i

-- Is k in the set?
unfoldable pub member : List ℕ → ℕ → Bool
member s k = eqb (bit (get_or s (k / 8) 0) (k % 8)) 1

-- The set with k: its bit is 1, and no other bit changes.
unfoldable pub added : List ℕ → ℕ → List ℕ
added s k = cond (member s k) s (set s (k / 8) (get_or s (k / 8) 0 + power (k % 8)))

-- The number k was put into the set s, which is then s' and has r numbers more.
pub record Added (s : List ℕ) (k : ℕ) (s' : List ℕ) (r : ℕ) : Type 0 where
  pub result : s' ≡ added s k
  pub gain : r ≡ cond (member s k) 0 1

-- some 16-bit number is not in the set
abbrev pub Missing : List ℕ → Type 0
Missing s = (k : ℕ) × (k < 65536) × (member s k ≡ false)

-- k is the least number that is not in the set
pub record LeastMissing (s : List ℕ) (k : ℕ) : Type 0 where
  pub missing : member s k ≡ false
  pub least : (j : ℕ) → j < k → member s j ≡ true

-- one number more at the end, if the test holds
abbrev pub tick : Bool → ℕ → List ℕ → List ℕ
tick true k l = l ++ (k ∷ [])
tick false k l = l

-- the numbers below k that are in the set, ascending
unfoldable pub members_below : List ℕ → ℕ → List ℕ
members_below s zero = []
members_below s (suc k) = tick (member s k) k (members_below s k)

-- The n numbers below k that are in the set stand at the front of the row, which was `old` before.
pub record Listed (s old : List ℕ) (k n : ℕ) (row : List ℕ) : Type 0 where
  pub count : n ≡ length (members_below s k)
  pub front : row ≡ members_below s k ++ drop n old
  pub whole : length row ≡ length old

-- The list stands at the front of the row, and what lies past it stayed as it was.
abbrev pub Fronted : List ℕ → List ℕ → List ℕ → Type 0
Fronted l row row' = row' ≡ l ++ drop (length l) row
