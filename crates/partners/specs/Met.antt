-- What a place meets: the label that it shows, and its partners.
use Rattle.std.specs.Prelude.{◌≡◌, ◌↔◌, List, Bool, true, Option, Some, ◌+◌, ◌≤◌}
use Rattle.ccsk.specs.Term.{Term, Name, Label, Node, Co, On, size}
use Rattle.labelset.specs.declared.Labels.{Labels}
use Rattle.offers.specs.Offers.{OffersAt, JoinsAt}
use Rattle.index.specs.declared.Rows.{Rows}
use Rattle.index.specs.Whole.{PartAt}
use Rattle.wanted.specs.Kept.{Covers}
use Rattle.showing.specs.declared.Places.{Places}
use Rattle.showing.specs.Listed.{Listed}

-- the label r is what a restriction on the name a leaves of the label m
pub record Hides (a : Name) (m r : Option Label) : Type 0 where
  pub at : (l : Label) → (r ≡ Some l) ↔ ((m ≡ Some l) × ¬ On a l)

-- the label k is the complement of the label r, if there is one
abbrev pub Answers : Option Label → Label → Type 0
Answers r k = (l : Label) × (r ≡ Some l) × Co l k

-- What the node i meets in the part at node n, whichever that is: the label that it shows there, and, if they were asked for, its partners,
-- listed behind the places of L.
pub record Meets (R : Rows) (K : List Labels) (n i : Node) (listing : Bool) (L L' : Places) (r : Option Label) : Type 0 where
  pub label : (t : Term) → PartAt R n t → (l : Label) → OffersAt n t i l ↔ (r ≡ Some l)
  pub mates : listing ≡ true → Covers R K → (t : Term) → PartAt R n t → Listed (JoinsAt n t i) L L'
  pub few : (t : Term) → PartAt R n t → L'.count ≤ n + size t
