-- What the pass over a record notes, against the keys and the lasts of the term that it reads.
use Rattle.std.specs.Prelude.{◌≡◌, List, ◌++◌, ℕ, ◌+◌, ◌-◌, length, Result, Ok, Err}
use Rattle.ccsk.specs.Term.{Term, Node, keys}
use Rattle.format.specs.Limits.{node_limit}
use Rattle.shared.specs.declared.Refusal.{Refusal}
use Rattle.shared.specs.Refusal.{number}
use Rattle.reader.specs.Walk.{Stops, Walks}
use Rattle.lasts.specs.Last.{lasts}
use Rattle.noting.specs.declared.Notes.{Notes}
use Rattle.noting.specs.Node.{noted_keys, noted_lasts}
use Rattle.gather.specs.declared.Part.{Part}

-- The keys and the lasts of the term t, whose root is node n, are noted after those that were noted before, and the scopes are as they were.
pub record Noted (n : Node) (t : Term) (before after : Notes) : Type 0 where
  pub same_scopes : after.scopes ≡ before.scopes
  pub more_keys : noted_keys after ≡ noted_keys before ++ keys t
  pub key_count : after.key_count ≡ before.key_count + length (keys t)
  pub more_lasts : noted_lasts after ≡ noted_lasts before ++ lasts n before.scopes t
  pub last_count : after.last_count ≡ before.last_count + length (lasts n before.scopes t)

-- With d levels and c nodes left: reading is refused, or it gives a term that is noted.
abbrev pub Gathers : List ℕ → ℕ → ℕ → ℕ → Notes → Result Part Refusal → Notes → Type 0
Gathers s at d c before (Err r) after = Stops s at d c (number r)
Gathers s at d c before (Ok part) after = (t : Term) × Walks s at d c t part.next part.left × Noted (node_limit - c) t before after
