-- `complements` meets its contract: the two halves change places, each without its lowest bit.
use Rattle.labelset.proofs.Sets.{set_complements}
use Rattle.labelset.proofs.Labels.complements.Goals as goal

pub returns : goal.returns
returns c = set_complements _ _ _ c.even_part.ensures c.even_part-2.ensures
