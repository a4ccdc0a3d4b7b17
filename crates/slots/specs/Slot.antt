-- Small numbers for the keys of columns: different keys get different numbers, and there are no more numbers than rows.
use Rattle.std.specs.Prelude.{◌≡◌, ◌⊎◌, ◌≢◌, List, true, ℕ, zero, suc, ◌+◌, ◌≤◌, ◌<◌, length, get_or}
use Rattle.ccsk.specs.Numbers.{In}
use Rattle.ccsk.specs.Term.{Key}
use Rattle.causes.specs.Columns.{Below, Faithful, Positive}
use Rattle.keyset.specs.Set.{member}
use Rattle.rank.specs.Rank.{rank}

-- the small number of a key: one more than its rank in a set of keys; 0 stays 0
unfoldable pub slot : List ℕ → Key → ℕ
slot m zero = 0
slot m (suc k) = suc (rank m (suc k))

-- each number of a column, unless it is 0, is in the set
abbrev pub KeysIn : List ℕ → List ℕ → Type 0
KeysIn m c = (i : ℕ) → i < length c → get_or c i 0 ≢ 0 → member m (get_or c i 0) ≡ true

-- each number of a column has become its new one
abbrev pub Renamed : (ℕ → ℕ) → List ℕ → List ℕ → Type 0
Renamed f c c' = (length c' ≡ length c) × ((i : ℕ) → i < length c → get_or c' i 0 ≡ f (get_or c i 0))

-- a column of keys, and one of numbers that are among them or 0
pub record Numberable (ks us : List ℕ) : Type 0 where
  pub keys : Positive ks
  pub ups : (i : ℕ) → i < length us → (get_or us i 0 ≡ 0) ⊎ In (get_or us i 0) ks
  pub few : length ks < 65535

-- both columns under new names below n
pub record Numbered (ks us ks' us' : List ℕ) (n : ℕ) : Type 0 where
  pub name : ℕ → ℕ
  pub root : name 0 ≡ 0
  pub faithful : Faithful name ks
  pub keys : Renamed name ks ks'
  pub ups : Renamed name us us'
  pub keys_below : Below n ks'
  pub ups_below : Below n us'
  pub some : 0 < n
  pub few : n ≤ length ks + 1
