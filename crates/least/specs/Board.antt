-- The numbers that are there: those in the tree, and the one that waits outside, in place 0; 65,535 says that none does.
use Rattle.std.specs.Prelude.{◌≡◌, ◌⊎◌, ◌≢◌, ◌↔◌, List, ℕ, ◌≤◌, ◌<◌, get_or}
use Rattle.least.specs.Tree.{leaf, Tree}

-- the number k is there
abbrev pub There : ℕ → List ℕ → ℕ → Type 0
There n tree k = (leaf n tree k ≡ k) ⊎ (get_or tree 0 0 ≡ k)

-- The tree is whole, and the number that waits outside is not in it.
pub record Board (n : ℕ) (tree : List ℕ) : Type 0 where
  pub whole : Tree n tree
  pub outside : (get_or tree 0 0 ≡ 65535) ⊎ ((get_or tree 0 0 < n) × (leaf n tree (get_or tree 0 0) ≡ 65535))

-- the tree was built: what is there are the numbers that stood at their leaves
pub record Built (n : ℕ) (tree tree' : List ℕ) : Type 0 where
  pub board : Board n tree'
  pub kept : (k : ℕ) → k < n → There n tree' k ↔ (leaf n tree k ≡ k)

-- k has come
pub record Put (n k : ℕ) (tree tree' : List ℕ) : Type 0 where
  pub board : Board n tree'
  pub here : There n tree' k
  pub kept : (j : ℕ) → j < n → j ≢ k → There n tree' j ↔ There n tree j

-- some number is there
abbrev pub Some : ℕ → List ℕ → Type 0
Some n tree = (k : ℕ) × (k < n) × There n tree k

-- r was the least that was there, and has gone
pub record Took (n r : ℕ) (tree tree' : List ℕ) : Type 0 where
  pub number : r < n
  pub there : There n tree r
  pub least : (k : ℕ) → k < n → There n tree k → r ≤ k
  pub board : Board n tree'
  pub gone : ¬ There n tree' r
  pub kept : (j : ℕ) → j < n → j ≢ r → There n tree' j ↔ There n tree j
