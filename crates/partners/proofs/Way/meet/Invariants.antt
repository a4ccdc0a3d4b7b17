use Rattle.partners.specs.Met.{Meets}
use Rattle.partners.specs.Way.{inner}
use Rattle.partners.proofs.Way.meet.Given as goal

abbrev pub invariant-loop-k : goal.invariant-loop-k
invariant-loop-k l = Meets l.rows l.sets (inner l.self.turns.row l.k) l.i l.listing l.initial.mates l.mates l.label
