-- A term as rows of numbers, one line a node in preorder: how a search goes on from the node, its action or name, and where what begins there ends.
use Rattle.std.specs.Prelude.{◌≡◌, List, Bool, true, false, ℕ, zero, suc, ◌+◌, ◌≤◌, get_or}
use Rattle.ccsk.specs.Term.{Term, Key, Node, nil, pre, cho, par, res, size}
use Rattle.format.specs.Encode.{InRange}
use Rattle.format.specs.Limits.{node_limit}
use Rattle.moves.specs.Move.{holds}

-- The form of a node: 0 nothing from here on steps, 1 the prefix itself does, 2 what begins at the next node does, 3 what begins at the second part
-- does, 4 either part does, 5 both parts do, and together, 6 what a restriction lets through does.

-- of a prefix, by its key and whether something below it holds one
abbrev pub prefix_form : Key → Bool → ℕ
prefix_form zero true = 0
prefix_form zero false = 1
prefix_form (suc k) below = 2

-- of a choice, by which of its sides hold a key
abbrev pub form_of_choice : Bool → Bool → ℕ
form_of_choice true true = 0
form_of_choice true false = 2
form_of_choice false true = 3
form_of_choice false false = 4

-- The rows of forms, arguments and ends hold the lines of the term t, whose root is node n.
module _ (F A E : List ℕ) where
  abbrev pub Laid : Node → Term → Type 0
  Laid n nil = (get_or E n 0 ≡ n + size nil) × (get_or F n 0 ≡ 0)
  Laid n (pre a k t) = (get_or E n 0 ≡ n + size (pre a k t)) × (get_or F n 0 ≡ prefix_form k (holds t)) × (get_or A n 0 ≡ a) × Laid (n + 1) t
  Laid n (cho t u) = (get_or E n 0 ≡ n + size (cho t u)) × (get_or F n 0 ≡ form_of_choice (holds t) (holds u)) × Laid (n + 1) t × Laid (n + 1 + size t) u
  Laid n (par t u) = (get_or E n 0 ≡ n + size (par t u)) × (get_or F n 0 ≡ 5) × Laid (n + 1) t × Laid (n + 1 + size t) u
  Laid n (res a t) = (get_or E n 0 ≡ n + size (res a t)) × (get_or F n 0 ≡ 6) × (get_or A n 0 ≡ a) × Laid (n + 1) t

-- the term t is the part that begins at node n
pub record Part (F A E : List ℕ) (n : Node) (t : Term) : Type 0 where
  pub lines : Laid F A E n t
  pub range : InRange t
  pub nodes : n + size t ≤ node_limit

-- some part begins at node n
abbrev pub SomePart : List ℕ → List ℕ → List ℕ → Node → Type 0
SomePart F A E n = (t : Term) × Part F A E n t
