-- `put_steps` is safe: the way that leads to one place can be led on to the next.
use native.Mathlib.Omega.{arith}
use Rattle.partners.proofs.Ways.{way_later}
use Rattle.listing.proofs.lines.put_steps.Goals as goal
use Rattle.listing.proofs.lines.put_steps.Goals.{then-marks-i-eq-WANTED+else-loop-mate-test, else-marks-i-eq-WANTED}

pub loop-i-preserved : goal.loop-i-preserved
loop-i-preserved c = elim c.if-marks-i-eq-WANTED.branch [
  | then-marks-i-eq-WANTED+else-loop-mate-test w ↦ rw w.way'-is (way_later (omega arith) w.lead.ensures.way)
  | else-marks-i-eq-WANTED w ↦ rw w.way'-is (way_later (omega arith) c.loop-i.invariant)
]
