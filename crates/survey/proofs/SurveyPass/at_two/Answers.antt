-- `at_two` meets its contract: what is found of both sides, and the move of a parallel or a choice.
use Rattle.moves.specs.Choose as chosen
use Rattle.moves.specs.Move.{holds, stands, move}
use Rattle.survey.proofs.SurveyPass.at_two.Goals as goal
use Rattle.survey.proofs.SurveyPass.at_two.Goals.{then-parallel, else-parallel}

pub returns : goal.returns
unfolding holds stands chosen.spots move
returns c = λ i n t u f g. elim c.if-parallel.branch [
  | then-parallel w ↦ rw (w.if-parallel.true, w.moved-is) (record {
    any = rw (f.any, g.any);
    stands = rw (f.stands, g.stands);
    spots = c.join.ensures _ _ f.spots g.spots;
    moved = rw (← f.moved, ← g.moved) w.over_parallel-moved.ensures;
  })
  | else-parallel w ↦ rw (w.if-parallel.false, w.moved-is) (record {
    any = rw (f.any, g.any);
    stands = rw (f.stands, g.stands);
    spots = c.join.ensures _ _ f.spots g.spots;
    moved = rw (← f.any, ← g.any, ← f.moved, ← g.moved) w.over_choice-moved.ensures;
  })
]
