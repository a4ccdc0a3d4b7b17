-- `at_prefix` meets its contract: the prefix, chosen or not, stands before what is found below it.
use Rattle.moves.specs.Choose as chosen
use Rattle.moves.specs.Move.{holds, stands, move}
use Rattle.survey.proofs.SurveyPass.at_prefix.Goals as goal
use Rattle.survey.proofs.SurveyPass.at_prefix.Goals.{then-chosen, else-chosen}

pub returns : goal.returns
unfolding holds stands chosen.spots move
returns c = λ t f. record {
  any = rw f.any;
  stands = rw (c.key.ensures, f.stands);
  spots = elim c.if-chosen.branch [
    | then-chosen w ↦ rw (w.spots-is, ← w.if-chosen.ensures) (w.after-spots.ensures _ f.spots)
    | else-chosen w ↦ rw (w.spots-is, ← w.if-chosen.ensures) f.spots
  ];
  moved = rw (← f.any, ← f.moved, ← c.takes-chosen.ensures, ← c.may_step.ensures) c.over_prefix-moved.ensures;
}
