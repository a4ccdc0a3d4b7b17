-- `list_reached` meets its contract: the keys that were reached stand in a set, and go from there to the row.
use Rattle.keys.proofs.Marks.{holds_none}
use Rattle.waiting.proofs.Answers.{counted, reached_listed}
use Rattle.waiting.proofs.list_reached.Goals as goal

pub reach-many-requires-clause-holds : goal.reach-many-requires-clause-holds
reach-many-requires-clause-holds c = rw c.new-set.ensures holds_none

pub fill-requires : goal.fill-requires
fill-requires c = counted c.args.cabinet.now c.args.key _ _ c.reach-many.ensures

pub returns : goal.returns
returns c = reached_listed c.args.cabinet.now c.args.key _ _ c.reach-many.ensures c.requires.to_keys _ _ _ _ c.fill.ensures
