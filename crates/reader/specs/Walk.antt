-- The node that is due at a place, and the term that starts there, against the reading of a record.
use Rattle.std.specs.Prelude.{◌≡◌, List, ℕ, ◌+◌, ◌<◌, length, drop, Result, Ok, Err}
use Rattle.ccsk.specs.Term.{Term, size}
use Rattle.format.specs.Read.{refused, term, read}
use Rattle.format.specs.Encode.{encode}
use Rattle.shared.specs.declared.Refusal.{Refusal}
use Rattle.shared.specs.Refusal.{number}
use Rattle.reader.specs.declared.Head.{Head}
use Rattle.reader.specs.Kind.{byte_of}
use Rattle.reader.specs.Head.{NodeAt}

-- With d levels and k nodes left, reading at the place `at` of s is refused with c.
abbrev pub Stops : List ℕ → ℕ → ℕ → ℕ → ℕ → Type 0
Stops s at d k c = read d k (drop at s) ≡ refused c

-- With d levels and k nodes left, reading at the place `at` of s gives the term t. It ends at `next`, and l nodes may still come.
pub record Walks (s : List ℕ) (at d k : ℕ) (t : Term) (next l : ℕ) : Type 0 where
  pub reads : read d k (drop at s) ≡ term t (drop next s) l
  pub ends : next ≡ at + length (encode t)
  pub nodes : k ≡ size t + l

-- With d levels and k nodes left, a good node is due at the place `at` of s: its kind, how many children it has, and where its body ends.
pub record NodeDue (s : List ℕ) (at d k kind children next : ℕ) : Type 0 where
  pub inside : at < length s
  pub levels : d ≡ 0 → ⊥
  pub nodes : k ≡ 0 → ⊥
  pub good : NodeAt s at kind children next

-- what `node_due` answers
abbrev pub Due : List ℕ → ℕ → ℕ → ℕ → Result Head Refusal → Type 0
Due s at d k (Err r) = Stops s at d k (number r)
Due s at d k (Ok h) = NodeDue s at d k (byte_of h.kind) h.children h.next
