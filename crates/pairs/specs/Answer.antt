-- What the steps of the test on rows answer and leave behind.
use Rattle.std.specs.Prelude.{◌≡◌, ◌≢◌, List, Bool, true, false, ℕ, zero, suc, ◌+◌, ◌<◌, length, get_or}
use Rattle.pairs.specs.Rows.{rows_of, Indexed}

-- every number of the list is 0
abbrev pub Zero : List ℕ → Type 0
Zero l = (k : ℕ) → k < length l → get_or l k 0 ≡ 0

-- The row r is noted, one higher, as the first or the second; or both were noted before, and nothing changes.
pub data Entered (r a b : ℕ) : ℕ → ℕ → Bool → Type 0 where
  as_first : a ≡ 0 → Entered r a b (r + 1) b true
  as_second : a ≢ 0 → b ≡ 0 → Entered r a b a (r + 1) true
  as_third : a ≢ 0 → b ≢ 0 → Entered r a b a b false

-- all rows are indexed, or some key stands in more than two
abbrev pub Index : List ℕ → List ℕ → List ℕ → Bool → Type 0
Index ks first second true = Indexed ks first second
Index ks first second false = (k : ℕ) × (2 < length (rows_of k 0 ks))

-- the key right above a row that is given one higher; 0 where there is no row
abbrev pub above : List ℕ → ℕ → ℕ
above us zero = 0
above us (suc r) = get_or us r 0

-- each row has become the key right above it
abbrev pub Climbed : List ℕ → List ℕ → List ℕ → Type 0
Climbed us rows rows' = (length rows' ≡ length rows) × ((k : ℕ) → k < length rows → get_or rows' k 0 ≡ above us (get_or rows k 0))
