use Prim.Native.Nat.{◌-◌}
use Rattle.format.specs.Limits.{node_limit}
use Rattle.partners.specs.Way.{OnWay, Left}
use Rattle.partners.proofs.Way.lead.Given as goal

abbrev pub invariant-back : goal.invariant-back
invariant-back l = OnWay l.rows l.i l.self

abbrev pub decreases-back : goal.decreases-back
decreases-back l = l.self.turns.count

abbrev pub invariant-down : goal.invariant-down
invariant-down l = record {
  way : OnWay l.rows l.i l.self;
  left : Left l.rows l.self.turns.row l.i l.self.turns.count;
}

abbrev pub decreases-down : goal.decreases-down
decreases-down l = node_limit - l.self.node
