-- The answers of the entries for a host: one number each, with what stands in the lent buffer afterwards.
use Rattle.std.specs.Prelude.{List, [], ◌∷◌, ℕ, ◌+◌, ◌*◌, get_or}
use Rattle.ccsk.specs.Term.{Label, Node}
use Rattle.format.specs.Read.{key_of}
use Rattle.format.specs.Preorder.{Shown, shown}

-- Forward step and undo: refusal number times 256, plus the label (01, Operations, the last paragraph).
abbrev pub step_answer : ℕ → Label → ℕ
step_answer refusal label = refusal * 256 + label

-- All other entries: refusal × 2^48 + mark × 2^40 + label × 2^32 + p × 2^16 + q.
-- An entry that answers one number has it in the place of q.
abbrev pub answer : ℕ → ℕ → Label → Node → ℕ → ℕ
answer refusal mark label p q = refusal * 281474976710656 + mark * 1099511627776 + label * 4294967296 + p * 65536 + q

-- The answer of a step, of an operation with a promise P on refusal, label and the record afterwards.
pub data PackedStep (P : ℕ → Label → List ℕ → Type 0) : ℕ → List ℕ → Type 0 where
  packed : {c : ℕ} {l : Label} {b : List ℕ} → P c l b → PackedStep P (step_answer c l) b

-- An answer that is a number.
pub data PackedNumber (P : ℕ → ℕ → Type 0) : ℕ → Type 0 where
  packed : {c n : ℕ} → P c n → PackedNumber P (answer c 0 0 0 n)

-- An answer that is a number, with the lent record or row afterwards.
pub data PackedLent (P : ℕ → ℕ → List ℕ → Type 0) : ℕ → List ℕ → Type 0 where
  packed : {c n : ℕ} {b : List ℕ} → P c n b → PackedLent P (answer c 0 0 0 n) b

-- An answer that is a number, with the lent record and the lent row afterwards.
pub data PackedBoth (P : ℕ → ℕ → List ℕ → List ℕ → Type 0) : ℕ → List ℕ → List ℕ → Type 0 where
  packed : {c n : ℕ} {b row : List ℕ} → P c n b row → PackedBoth P (answer c 0 0 0 n) b row

-- The answer of the search for a step: mark, places and label.
pub data PackedFirst (P : ℕ → ℕ → Node → Node → Label → Type 0) : ℕ → Type 0 where
  packed : {c n : ℕ} {p q : Node} {l : Label} → P c n p q l → PackedFirst P (answer c n l p q)

-- A node of the walk: its kind × 2^56, and in the answer the mark, the action or name as label, the key as p, the depth as q.
-- A body's first byte is the action or name, the other two are the key; what it has not is 0, and all is 0 where nothing is shown.
abbrev pub node_answer : ℕ → List Shown → ℕ
node_answer refusal [] = answer refusal 0 0 0 0
node_answer refusal (shown kind body depth ∷ l) = kind * 72057594037927936 + answer refusal 1 (get_or body 0 0) (key_of (get_or body 1 0) (get_or body 2 0)) depth

-- The answer of the walk: the refusal and what is shown.
pub data PackedNode (P : ℕ → List Shown → Type 0) : ℕ → Type 0 where
  packed : {c : ℕ} {l : List Shown} → P c l → PackedNode P (node_answer c l)
