-- `at_restriction` meets its contract: only the move changes.
use Rattle.moves.specs.Choose as chosen
use Rattle.moves.specs.Move.{holds, stands, move}
use Rattle.survey.proofs.SurveyPass.at_restriction.Goals as goal

pub returns : goal.returns
unfolding holds stands chosen.spots move
returns c = λ i n t f. record { any = f.any; stands = f.stands; spots = f.spots; moved = rw (← f.moved) c.over_restriction.ensures }
