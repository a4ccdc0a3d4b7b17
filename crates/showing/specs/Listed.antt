-- A row of nodes in rising order.
use Rattle.std.specs.Prelude.{◌≡◌, List, ℕ, ◌+◌, ◌<◌, ◌≤◌, length, get_or, set}
use Rattle.ccsk.specs.Term.{Term, Label, Node, size}
use Rattle.labelset.specs.declared.Labels.{Labels}
use Rattle.offers.specs.Offers.{Showing, At}
use Rattle.index.specs.declared.Rows.{Rows}
use Rattle.index.specs.Whole.{PartAt}
use Rattle.wanted.specs.Kept.{Covers}
use Rattle.showing.specs.declared.Places.{Places}

-- Node n is put behind the places of L.
pub record Pushed (L : Places) (n : Node) (L' : Places) : Type 0 where
  pub room : L.count < length L.row
  pub row : L'.row ≡ set L.row L.count n
  pub count : L'.count ≡ L.count + 1

-- Behind the places of L, which stay, the nodes of which P holds are listed in rising order.
pub record Listed (P : Node → Type 0) (L L' : Places) : Type 0 where
  pub more : L.count ≤ L'.count
  pub kept : (k : ℕ) → k < L.count → get_or L'.row k 0 ≡ get_or L.row k 0
  pub each : (k : ℕ) → L.count ≤ k → k < L'.count → P (get_or L'.row k 0)
  pub all : (i : Node) → P i → (k : ℕ) × (L.count ≤ k) × (k < L'.count) × (get_or L'.row k 0 ≡ i)
  pub rising : (j k : ℕ) → L.count ≤ j → j < k → k < L'.count → get_or L'.row j 0 < get_or L'.row k 0

-- The places are listed that show a label of W, whichever part begins at node n.
pub record Lists (R : Rows) (K : List Labels) (n : Node) (W : Label → Type 0) (L L' : Places) : Type 0 where
  pub part : Covers R K → (t : Term) → PartAt R n t → Listed (At n (Showing W t)) L L'
  pub few : (t : Term) → PartAt R n t → L'.count ≤ n + size t
