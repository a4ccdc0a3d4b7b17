-- `empty` meets its contract: a word that is 0 has no bit.
use Rattle.labelset.proofs.Sets.{set_empty}
use Rattle.labelset.proofs.Labels.empty.Goals as goal

pub returns : goal.returns
returns c = set_empty
