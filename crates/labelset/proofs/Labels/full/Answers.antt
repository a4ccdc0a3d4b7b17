-- `full` meets its contract: each of the four words has all its bits.
use Rattle.labelset.proofs.Words.{full_word}
use Rattle.labelset.proofs.Sets.{set_whole}
use Rattle.labelset.proofs.Labels.full.Goals as goal

pub returns : goal.returns
returns c = set_whole _ full_word
