-- `acyclic` meets its contract: what it calls, one after the other, makes all ready for the queue, and the queue decides.
use native.Mathlib.Omega.{arith}
use lib.ListN.{length}
use Rattle.cycles.specs.Pair.{firsts, seconds}
use Rattle.cycles.specs.Graph.{Acyclic}
use Rattle.cycles.proofs.Pairs.{firsts-length}
use Rattle.cycles.proofs.Whole.{answer}
use Rattle.cycles.proofs.acyclic.Goals as goal

pub returns : goal.returns
returns c = answer (length c.args.over.now) c.peel-taken.result (Acyclic (firsts c.args.over.now) (seconds c.args.over.now)) (omega (arith, c.requires.columns.some, firsts-length c.args.over.now)) c.peel-taken.ensures
