-- The way to a place: the nodes at which it turns, into the first of two parts or under a restriction.
use Rattle.std.specs.Prelude.{◌≡◌, ◌≢◌, List, Bool, Option, ℕ, zero, suc, ◌+◌, ◌<◌, ◌≤◌, get_or}
use Rattle.ccsk.specs.Term.{Label, Node}
use Rattle.format.specs.Limits.{node_limit}
use Rattle.labelset.specs.declared.Labels.{Labels}
use Rattle.index.specs.declared.Rows.{Rows}
use Rattle.index.specs.Whole.{SomePartAt}
use Rattle.showing.specs.declared.Places.{Places}
use Rattle.partners.specs.declared.Way.{Way}
use Rattle.partners.specs.Met.{Meets}

-- What a place meets in the part at node n is what it meets in the part at node m, for the place i and all after it.
pub record Onward (R : Rows) (i m n : Node) : Type 0 where
  pub met : (j : Node) (K : List Labels) (listing : Bool) (L L' : Places) (r : Option Label) → i ≤ j → Meets R K n j listing L L' r → Meets R K m j listing L L' r
  pub ends : get_or R.ends n 0 ≤ get_or R.ends m 0

-- where the part begins that the first k turns of the way lead into
abbrev pub inner : List ℕ → ℕ → Node
inner W zero = 0
inner W (suc k) = get_or W k 0 + 1

-- The way goes on to a node with two parts or a restriction, and there turns.
pub record Turn (R : Rows) (W : List ℕ) (i : Node) (k : ℕ) : Type 0 where
  pub part : SomePartAt R (get_or W k 0)
  pub form : 3 < get_or R.forms (get_or W k 0) 0
  pub from : Onward R i (inner W k) (get_or W k 0)
  pub deep : k ≤ get_or W k 0

-- The way leads from the root by d turns to node n.
pub record Leads (R : Rows) (W : List ℕ) (i : Node) (d : ℕ) (n : Node) : Type 0 where
  pub part : SomePartAt R n
  pub turns : (k : ℕ) → k < d → Turn R W i k
  pub last : Onward R i (inner W d) n
  pub deep : d ≤ n
  pub low : n < node_limit

-- the way, as it stands, can be led on to the place i
abbrev pub OnWay : Rows → Node → Way → Type 0
OnWay R i w = Leads R w.turns.row i w.turns.count w.node

-- where the way turns into the first of two parts, the place i stands before the second
abbrev pub Left : Rows → List ℕ → Node → ℕ → Type 0
Left R W i d = (k : ℕ) → k < d → get_or R.forms (get_or W k 0) 0 ≢ 6 → i < get_or R.ends (get_or W k 0 + 1) 0

-- The way leads to the place i, which meets no other place where it stands.
pub record WayTo (R : Rows) (i : Node) (w : Way) : Type 0 where
  pub way : OnWay R i w
  pub left : Left R w.turns.row i w.turns.count
  pub met : (K : List Labels) (listing : Bool) (L : Places) → L.count ≡ 0 → Meets R K w.node i listing L L w.label
