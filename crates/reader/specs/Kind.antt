-- The kinds of a node as the program holds them, and their bytes (01, The record, the table of kinds).
use Rattle.std.specs.Prelude.{◌≡◌, ℕ, ◌<◌, Result, MatchResult}
use Rattle.format.specs.Kinds.{length_of_body, count_of_children}
use Rattle.shared.specs.declared.Refusal.{Refusal}
use Rattle.shared.specs.declared.Refusal.TheVariants.{NoRecord}
use Rattle.reader.specs.declared.Kind.{Kind}
use Rattle.reader.specs.declared.Kind.TheVariants.{Nil, Prefix, Choice, Parallel, Restriction}

-- the byte of a kind
abbrev pub byte_of : Kind → ℕ
byte_of Nil = 0
byte_of Prefix = 1
byte_of Choice = 2
byte_of Parallel = 3
byte_of Restriction = 4

-- the result is the kind with this byte, or no kind has it
abbrev pub Decodes : ℕ → Result Kind Refusal → Type 0
Decodes byte r = MatchResult r (λ kind. byte_of kind ≡ byte) (λ e. (e ≡ NoRecord) × (4 < byte))

-- how many bytes the body of a node of this kind has, and how many children it has
abbrev pub body_of : Kind → ℕ
body_of kind = length_of_body (byte_of kind)

abbrev pub children_of : Kind → ℕ
children_of kind = count_of_children (byte_of kind)
