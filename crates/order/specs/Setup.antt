-- What the whole promises, and the tree with its leaves.
use Rattle.std.specs.Prelude.{◌≡◌, ◌⊎◌, ◌↔◌, List, [], ◌++◌, ℕ, ◌<◌, length, get_or, drop}
use Rattle.ccsk.specs.Term.{Key}
use Rattle.least.specs.Board.{There, Board}
use Rattle.threads.specs.Rows.{Leads}
use Rattle.threads.specs.Threads.{Held}
use Rattle.order.specs.Peels.{Peels}

-- the keys of the set, in the order in which they are taken out, stand at the front of the row
pub record Sorted (marks : List ℕ) (n : ℕ) (us ls row row' : List ℕ) : Type 0 where
  pub order : List Key
  pub peels : Peels (Leads us ls) (Held marks) [] order
  pub count : length order ≡ n
  pub front : row' ≡ order ++ drop n row

-- v is the number r where the counter is 0, else 65,535
abbrev pub LeafOf : ℕ → ℕ → ℕ → Type 0
LeafOf count r v = ((count ≡ 0) × (v ≡ r)) ⊎ ((0 < count) × (v ≡ 65535))

-- the numbers whose counters are 0 are there
pub record Planted (n : ℕ) (counts tree : List ℕ) : Type 0 where
  pub board : Board n tree
  pub free : (r : ℕ) → r < n → There n tree r ↔ (get_or counts r 0 ≡ 0)
