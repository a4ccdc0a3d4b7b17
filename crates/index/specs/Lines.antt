-- The lines of a record's nodes: as they are noted from the first node to the last, and as they are settled from the last to the first.
use Rattle.std.specs.Prelude.{◌≡◌, List, [], ◌∷◌, Bool, true, false, not, ◌||◌, ℕ, zero, suc, ◌≤◌, ◌<◌, eqb, length, get_or, Result, Ok, Err}
use Rattle.ccsk.specs.Term.{Term, Node, size}
use Rattle.format.specs.Flat.{after, head_kind, head_key, head_arg}
use Rattle.format.specs.Kinds.{length_of_body}
use Rattle.format.specs.Limits.{node_limit}
use Rattle.format.specs.Read.{Refuses}
use Rattle.keys.specs.Gather.{RecordOf}
use Rattle.offers.specs.Forms.{Laid}
use Rattle.reader.specs.declared.Kind.{Kind}
use Rattle.reader.specs.declared.Kind.TheVariants.{Nil, Prefix, Choice, Parallel, Restriction}
use Rattle.reader.specs.Kind.{byte_of}
use Rattle.shared.specs.declared.Refusal.{Refusal}
use Rattle.shared.specs.Refusal.{number}
use Rattle.index.specs.declared.Form.{Form}
use Rattle.index.specs.declared.Form.TheVariants.{Nothing, Own, Next, Second, Either, Both, Hidden}
use Rattle.index.specs.Whole.{number_of}

-- the terms that are due at a node of the term t
unfoldable pub pending : Node → Term → List Term
pending zero t = t ∷ []
pending (suc i) t = after (pending i t)

-- the form of a node of this kind where no key stands
abbrev pub keyless : Kind → Form
keyless Nil = Nothing
keyless Prefix = Own
keyless Choice = Either
keyless Parallel = Both
keyless Restriction = Hidden

-- The line of node i, the first node of ts, as it is noted: the form that its kind has where no key stands, its action or name where it has
-- one, and whether it is done.
pub record Line (F A : List ℕ) (H : List Bool) (i : Node) (ts : List Term) : Type 0 where
  pub some : 0 < length ts
  pub form : (kind : Kind) → byte_of kind ≡ head_kind ts → get_or F i 0 ≡ number_of (keyless kind)
  pub arg : 0 < length_of_body (head_kind ts) → get_or A i 0 ≡ head_arg ts
  pub done : get_or H i false ≡ not (eqb (head_key ts) 0)

-- the lines of the nodes before n are noted
abbrev pub Lines : Term → Node → List ℕ → List ℕ → List Bool → Type 0
Lines t n F A H = (i : Node) → i < n → Line F A H i (pending i t)

-- The lines of all n nodes are noted.
pub record Noted (t : Term) (n : Node) (F A : List ℕ) (H : List Bool) : Type 0 where
  pub lines : Lines t n F A H
  pub last : pending n t ≡ []
  pub few : n ≤ node_limit

-- what `note_all` answers
abbrev pub Notes : List ℕ → List ℕ → List ℕ → List Bool → Result ℕ Refusal → Type 0
Notes s F A H (Err r) = Refuses s (number r)
Notes s F A H (Ok n) = (t : Term) × RecordOf s t × Noted t n F A H

-- the form of a prefix, by whether it is done and whether something below it holds a key
abbrev pub own_form : Bool → Bool → Form
own_form true below = Next
own_form false true = Nothing
own_form false false = Own

-- the form of a choice, by which of its sides hold a key
abbrev pub choice_form : Bool → Bool → Form
choice_form true true = Nothing
choice_form true false = Next
choice_form false true = Second
choice_form false false = Either

-- the form of a node, by the one that it has where no key stands, whether it is done, and which of its parts hold a key
abbrev pub form_of : Form → Bool → Bool → Bool → Form
form_of Own done below beside = own_form done below
form_of Either done below beside = choice_form below beside
form_of f done below beside = f

-- whether what begins at a node holds a key
abbrev pub holds_of : Form → Bool → Bool → Bool → Bool
holds_of Nothing done below beside = false
holds_of Either done below beside = below || beside
holds_of Both done below beside = below || beside
holds_of f done below beside = done || below

-- where what begins at a node ends, by the next node and where its first and its second part end
abbrev pub end_of : Form → Node → Node → Node → Node
end_of Nothing next end last = next
end_of Either next end last = last
end_of Both next end last = last
end_of f next end last = end

-- what `settle` starts from: the n lines are those of some term
abbrev pub Notable : Node → List ℕ → List Bool → Type 0
Notable n F H = (t : Term) × (A : List ℕ) × Noted t n F A H

-- what `settle` promises: whatever term the lines were those of, it is laid
pub record Settles (n : Node) (F : List ℕ) (H : List Bool) (F' E' : List ℕ) : Type 0 where
  pub all : (t : Term) (A : List ℕ) → Noted t n F A H → (n ≡ size t) × Laid F' A E' 0 t
