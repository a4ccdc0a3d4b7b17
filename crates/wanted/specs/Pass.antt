-- The marks that the pass over a part leaves, and the labels that it answers.
use Rattle.std.specs.Prelude.{◌≡◌, ◌⊎◌, ◌↔◌, List, ℕ, length, get_or}
use Rattle.ccsk.specs.Term.{Term, Node}
use Rattle.labelset.specs.declared.Labels.{Labels}
use Rattle.labelset.specs.Set.{Shows, Exactly}
use Rattle.offers.specs.Offers.{Shown, Wanted, At}
use Rattle.index.specs.declared.Rows.{Rows}
use Rattle.index.specs.Whole.{PartAt}
use Rattle.wanted.specs.Kept.{shown_at, Covers}

-- The marks are those before, with the nodes of which P holds.
pub record Adds (P : Node → Type 0) (M M' : List ℕ) : Type 0 where
  pub at : (i : Node) → (get_or M' i 0 ≡ 1) ↔ ((get_or M i 0 ≡ 1) ⊎ P i)
  pub room : length M' ≡ length M

-- The set r has the labels that the part t at node n shows, and its wanted places are marked, where the labels of `told` are asked for around it.
pub record Marked (n : Node) (t : Term) (told : Labels) (M M' : List ℕ) (r : Labels) : Type 0 where
  pub shows : Exactly r (Shown t)
  pub adds : Adds (At n (Wanted (Shows told) t)) M M'

-- what `mark` leaves, whichever part begins at node n; the set is told in front of the row
pub record Marks (R : Rows) (n : Node) (told : Labels) (M : List ℕ) (K : List Labels) (M' : List ℕ) (K' : List Labels) : Type 0 where
  pub part : (t : Term) → PartAt R n t → Marked n t told M M' (shown_at K' 0)
  pub covers : Covers R K → Covers R K'
  pub room : length M' ≡ length M
  pub long : length K' ≡ length K
