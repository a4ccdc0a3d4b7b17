-- `count` meets its contract: it gathers the keys in an empty set.
use Rattle.keys.proofs.Marks.{holds_none}
use Rattle.keys.proofs.Answers.{counted}
use Rattle.keys.proofs.count.Goals as goal

pub gather-requires : goal.gather-requires
gather-requires c = rw c.new.ensures holds_none

pub returns : goal.returns
returns c = counted c.args.bytes.now _ c.gather.result c.gather.ensures
