-- What the pass over a record answers, against the reading of the record.
use Rattle.std.specs.Prelude.{◌≡◌, List, ℕ, length, Result, Ok, Err}
use Rattle.ccsk.specs.Term.{Term}
use Rattle.format.specs.Read.{Reads, Refuses}
use Rattle.shared.specs.declared.Refusal.{Refusal}
use Rattle.shared.specs.Refusal.{number}
use Rattle.findings.specs.declared.Ask.{Ask}
use Rattle.findings.specs.declared.Seen.{Seen}
use Rattle.moves.specs.Choose.{spots}
use Rattle.findings.specs.Seen.{Found, choice_of}

-- the whole record: it is refused, or r is found of it, and as many prefixes are chosen as r says
abbrev pub Looked : List ℕ → Ask → Result Seen Refusal → Type 0
Looked s ask (Err r) = Refuses s (number r)
Looked s ask (Ok r) = (t : Term) × Reads s t × Found ask 0 0 t r × (r.spots.many ≡ length (spots (choice_of ask) 0 0 t))
