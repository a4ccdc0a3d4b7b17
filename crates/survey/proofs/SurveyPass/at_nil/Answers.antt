-- `at_nil` meets its contract: of a nil nothing is found, by computing.
use Rattle.std.proofs.Common.{refl}
use Rattle.moves.specs.Choose as chosen
use Rattle.moves.specs.Move.{holds, stands, move}
use Rattle.survey.proofs.SurveyPass.at_nil.Goals as goal

pub returns : goal.returns
unfolding holds stands chosen.spots move
returns c = λ i n. record { any = refl; stands = refl; spots = c.none.ensures; moved = refl }
