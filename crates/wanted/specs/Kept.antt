-- A row of sets of labels. The first is what the part marked last shows; behind it stands one for each node, what the part there shows, as far as
-- the row goes.
use Rattle.std.specs.Prelude.{◌≡◌, ◌≢◌, List, ℕ, ◌+◌, ◌<◌, length, get_or}
use Rattle.ccsk.specs.Term.{Term, Label, Node}
use Rattle.labelset.specs.declared.Labels.{Labels}
use Rattle.labelset.specs.Set.{Shows}
use Rattle.offers.specs.Offers.{Shown}
use Rattle.index.specs.declared.Rows.{Rows}
use Rattle.index.specs.Whole.{PartAt}

-- the set at a place of the row
abbrev pub shown_at : List Labels → ℕ → Labels
shown_at K i = get_or K i (record { a = 0; b = 0; c = 0; d = 0 })

-- The set s is put at the place i, if the row goes so far.
pub record Keeps (i : ℕ) (s : Labels) (K K' : List Labels) : Type 0 where
  pub here : i < length K → shown_at K' i ≡ s
  pub there : (j : ℕ) → j ≢ i → shown_at K' j ≡ shown_at K j
  pub long : length K' ≡ length K

-- The set s is told, and noted for node n, if the row goes so far.
pub record Noted (n : Node) (s : Labels) (K K' : List Labels) : Type 0 where
  pub told : shown_at K' 0 ≡ s
  pub here : n + 1 < length K → shown_at K' (n + 1) ≡ s
  pub there : (i : Node) → i ≢ n → shown_at K' (i + 1) ≡ shown_at K (i + 1)
  pub long : length K' ≡ length K

-- No label that the part at a node shows is missing from what is noted for that node.
pub record Covers (R : Rows) (K : List Labels) : Type 0 where
  pub at : (i : Node) (t : Term) (l : Label) → PartAt R i t → i + 1 < length K → Shown t l → Shows (shown_at K (i + 1)) l

-- It is noted that the part at node n shows none of the labels.
abbrev pub NoneShown : List Labels → Node → Labels → Type 0
NoneShown K n want = (n + 1 < length K) × ((l : Label) → ¬ (Shows (shown_at K (n + 1)) l × Shows want l))
