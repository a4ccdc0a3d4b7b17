use Rattle.partners.specs.Way.{OnWay}
use Rattle.listing.proofs.lines.put_steps.Given as goal

abbrev pub invariant-loop-i : goal.invariant-loop-i
invariant-loop-i l = OnWay l.rows l.i l.way
