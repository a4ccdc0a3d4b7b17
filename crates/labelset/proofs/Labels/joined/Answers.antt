-- `joined` meets its contract: the words are joined bit by bit.
use Rattle.labelset.proofs.Sets.{set_joined}
use Rattle.labelset.proofs.Labels.joined.Goals as goal

pub returns : goal.returns
returns c = set_joined _ _
