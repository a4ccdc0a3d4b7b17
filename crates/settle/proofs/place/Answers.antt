-- `place` meets its contract: a member's rank is below the number of members.
use native.Mathlib.Omega.{arith}
use Rattle.settle.proofs.Groups.{rank_within}
use Rattle.settle.proofs.place.Goals as goal

pub returns : goal.returns
returns c = (c.rank.ensures, omega (arith, c.rank.ensures, rank_within c.args.ranking.now.set.now.bytes c.args.key _ c.requires.0 c.ranges.key.fits c.requires.1))
