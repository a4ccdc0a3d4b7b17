-- `climb` meets its contract: r is the rank of k, from `from` up to `to`.
use native.Mathlib.Omega.{arith}
use Rattle.rank.proofs.Ranks.{rank_bound}
use Rattle.rank.proofs.Steps.{climbs}
use Rattle.rank.proofs.climb.Goals as goal

pub counted-r-requires : goal.counted-r-requires
counted-r-requires c = (omega arith, omega (arith, rank_bound c.args.set.now.bytes c.loop-k.k))

pub loop-k-preserved : goal.loop-k-preserved
loop-k-preserved c = climbs c.args.set.now.bytes c.loop-k.k _ _ c.loop-k.invariant c.counted-r.ensures
