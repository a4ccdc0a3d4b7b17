-- The table of kinds (01, The record): how long a node's body is and how many children it has.
use Rattle.std.specs.Prelude.{List, [], ◌∷◌, ℕ, get_or}

-- the two columns of the table, for nil, prefix, choice, parallel, restriction
abbrev pub bodies : List ℕ
bodies = 0 ∷ 3 ∷ 0 ∷ 0 ∷ 1 ∷ []

abbrev pub families : List ℕ
families = 0 ∷ 1 ∷ 2 ∷ 2 ∷ 1 ∷ []

-- how many bytes the body of a node of a kind has
abbrev pub length_of_body : ℕ → ℕ
length_of_body kind = get_or bodies kind 0

-- how many children it has
abbrev pub count_of_children : ℕ → ℕ
count_of_children kind = get_or families kind 0
