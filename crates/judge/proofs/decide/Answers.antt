-- `decide` meets its contract: it lends the room to work in.
use native.Mathlib.Omega.{arith}
use Rattle.judge.proofs.Steps.{cut_room}
use Rattle.judge.proofs.decide.Goals as goal

pub weigh-requires-clause-room : goal.weigh-requires-clause-room
weigh-requires-clause-room c = cut_room c.args.many 4097 (omega (arith, c.requires.1))
