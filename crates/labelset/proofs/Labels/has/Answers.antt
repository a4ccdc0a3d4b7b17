-- `has` meets its contract: the bit that is shifted out of the label's word tells.
use Rattle.labelset.proofs.Sets.{has_tells}
use Rattle.labelset.proofs.Labels.has.Goals as goal

pub returns : goal.returns
returns c = has_tells c.args.self c.args.label c.word.ensures
