-- The loop of `list` and why `list` ends: each call begins at a later node.
use Prim.Native.Nat.{◌-◌, ◌≤◌}
use Rattle.format.specs.Limits.{node_limit}
use Rattle.labelset.specs.Set.{Shows}
use Rattle.index.specs.Whole.{SomePartAt}
use Rattle.showing.specs.declared.Places.{Places}
use Rattle.showing.specs.Listed.{Lists}
use Rattle.showing.proofs.+list.Given as goal

abbrev pub invariant-down : goal.invariant-down
invariant-down l = record {
  part : SomePartAt l.rows l.at;
  few : l.places.count ≤ l.at;
  later : l.n ≤ l.at;
  rest : (L : Places) → Lists l.rows l.sets l.at (Shows l.seek) l.places L → Lists l.rows l.sets l.n (Shows l.fn.want) l.initial.places L;
}

abbrev pub decreases-down : goal.decreases-down
decreases-down l = node_limit - l.at

abbrev pub decreases-list : goal.decreases-list
decreases-list l = node_limit - l.n
