-- A tree with n leaves in the first 2 n places of a row: below place i stand the places 2 i and 2 i + 1, and place n + k is the leaf of the number k.
use Rattle.std.specs.Prelude.{◌≡◌, ◌⊎◌, ◌≢◌, List, ℕ, ◌+◌, ◌≤◌, ◌<◌, length, get_or}

-- r is the lesser of a and b
pub record Lesser (a b r : ℕ) : Type 0 where
  pub first : r ≤ a
  pub second : r ≤ b
  pub either : (r ≡ a) ⊎ (r ≡ b)

-- the number k, or 65,535 where k is not there
abbrev pub Leaf : ℕ → ℕ → Type 0
Leaf k v = (v ≡ k) ⊎ (v ≡ 65535)

-- what stands at the leaf of k
abbrev pub leaf : ℕ → List ℕ → ℕ → ℕ
leaf n tree k = get_or tree (n + k) 0

-- room for n places and n leaves, and what stands at the leaves
pub record Leaves (n : ℕ) (tree : List ℕ) : Type 0 where
  pub few : n ≤ 32767
  pub some : 0 < length tree
  pub long : n + n ≤ length tree
  pub leaves : (k : ℕ) → k < n → Leaf k (leaf n tree k)

-- place i holds the lesser of the two below it
abbrev pub Holds : List ℕ → ℕ → Type 0
Holds tree i = Lesser (get_or tree (i + i) 0) (get_or tree (i + i + 1) 0) (get_or tree i 0)

-- every place above the leaves does
pub record Tree (n : ℕ) (tree : List ℕ) : Type 0 where
  pub leaves : Leaves n tree
  pub inner : (i : ℕ) → 0 < i → i < n → Holds tree i

-- v stands at the leaf of k, and neither another leaf nor place 0 has changed
pub record Placed (n k v : ℕ) (tree tree' : List ℕ) : Type 0 where
  pub whole : Tree n tree'
  pub here : leaf n tree' k ≡ v
  pub kept : (j : ℕ) → j < n → j ≢ k → leaf n tree' j ≡ leaf n tree j
  pub outside : get_or tree' 0 0 ≡ get_or tree 0 0
