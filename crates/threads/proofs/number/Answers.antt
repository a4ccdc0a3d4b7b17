-- `number` meets its contract: a key of the set is below the end of the set.
use Rattle.threads.proofs.Threading.{rank_low}
use Rattle.threads.proofs.number.Goals as goal

pub returns-clause-low : goal.returns-clause-low
returns-clause-low c = rw c.rank.ensures (rank_low _ c.requires.0 c.args.key c.requires.1)
