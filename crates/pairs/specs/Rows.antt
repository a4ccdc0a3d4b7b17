-- Entries as columns of numbers, and for each key the rows that hold it: the first and the second, each one higher, 0 where there is none.
use Rattle.std.specs.Prelude.{◌≡◌, List, [], ◌∷◌, ◌++◌, ℕ, zero, suc, ◌<◌, eqb, length, get_or}
use Rattle.ccsk.specs.Term.{tick}
use Rattle.causes.specs.Entry.{Entry}

-- the entries that the columns of keys, actions, ends, scopes and keys right above are, the first in row i; the shortest column decides how many
unfoldable pub table : ℕ → List ℕ → List ℕ → List ℕ → List ℕ → List ℕ → List Entry
table i [] acs es ss us = []
table i (k ∷ ks) [] es ss us = []
table i (k ∷ ks) (a ∷ acs) [] ss us = []
table i (k ∷ ks) (a ∷ acs) (e ∷ es) [] us = []
table i (k ∷ ks) (a ∷ acs) (e ∷ es) (s ∷ ss) [] = []
table i (k ∷ ks) (a ∷ acs) (e ∷ es) (s ∷ ss) (u ∷ us) = record { key = k; action = a; row = i; end = e; scope = s; up = u } ∷ table (suc i) ks acs es ss us

-- the rows that hold m, counted from i
unfoldable pub rows_of : ℕ → ℕ → List ℕ → List ℕ
rows_of m i [] = []
rows_of m i (k ∷ ks) = tick (eqb m k) i (rows_of m (suc i) ks)

-- the row that a number one higher stands for, 0 for none
abbrev pub row : ℕ → List ℕ
row zero = []
row (suc r) = r ∷ []

-- for each number below the length of both lists, the rows that hold it
pub record Indexed (ks first second : List ℕ) : Type 0 where
  pub alike : length second ≡ length first
  pub rows : (k : ℕ) → k < length first → rows_of k 0 ks ≡ row (get_or first k 0) ++ row (get_or second k 0)
  pub order : (k : ℕ) → k < length first → get_or first k 0 ≡ 0 → get_or second k 0 ≡ 0
