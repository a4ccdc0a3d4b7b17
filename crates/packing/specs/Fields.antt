-- How a host takes an answer apart: the fields, as the macros of include/concoursel.h take them (tests/macros compares the two), and the
-- node that it has of a walk's answer.
use Rattle.std.specs.Prelude.{List, [], ◌∷◌, ℕ, ◌/◌, ◌%◌, ◌^◌, take}
use Rattle.ccsk.specs.Term.{Label, Key, Node}
use Rattle.format.specs.Kinds.{length_of_body}
use Rattle.format.specs.Encode.{high, low}
use Rattle.format.specs.Preorder.{Shown, shown}

-- An answer is shifted to the right by the place, and the cast to 8 or 16 bits, the width, keeps what fits.
abbrev pub field : ℕ → ℕ → ℕ → ℕ
field place width answer = answer / 2 ^ place % 2 ^ width

-- The answer of a step: CONCOURSEL_STEP_REFUSAL.
abbrev pub step_refusal_of : ℕ → ℕ
step_refusal_of answer = field 8 8 answer

-- CONCOURSEL_STEP_LABEL
abbrev pub step_label_of : ℕ → Label
step_label_of answer = field 0 8 answer

-- All other answers: CONCOURSEL_REFUSAL.
abbrev pub refusal_of : ℕ → ℕ
refusal_of answer = field 48 8 answer

-- CONCOURSEL_FOUND
abbrev pub found_of : ℕ → ℕ
found_of answer = field 40 8 answer

-- CONCOURSEL_LABEL; of a node CONCOURSEL_ACTION and CONCOURSEL_NAME
abbrev pub label_of : ℕ → Label
label_of answer = field 32 8 answer

-- CONCOURSEL_P; of a node CONCOURSEL_KEY
abbrev pub p_of : ℕ → Node
p_of answer = field 16 16 answer

-- CONCOURSEL_Q; of a node CONCOURSEL_DEPTH
abbrev pub q_of : ℕ → Node
q_of answer = field 0 16 answer

-- CONCOURSEL_NUMBER
abbrev pub number_of : ℕ → ℕ
number_of answer = field 0 16 answer

-- CONCOURSEL_KIND
abbrev pub kind_of_answer : ℕ → ℕ
kind_of_answer answer = field 56 8 answer

-- The body of a node: action or name, then the key's high and low byte; as many of the three as the kind has (the header's table of kinds).
abbrev pub body_of : ℕ → Label → Key → List ℕ
body_of kind label key = take (length_of_body kind) (label ∷ (high key ∷ (low key ∷ [])))

-- What a host has of a node: none where the mark is 0, one where it is 1.
abbrev pub node_of : ℕ → List Shown
node_of answer = take (found_of answer) (shown (kind_of_answer answer) (body_of (kind_of_answer answer) (label_of answer) (p_of answer)) (q_of answer) ∷ [])
