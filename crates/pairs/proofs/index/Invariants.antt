use lib.ListN.{take}
use Rattle.cycles.specs.Pair.{firsts, seconds}
use Rattle.pairs.specs.Rows.{Indexed}
use Rattle.pairs.proofs.index.Given as goal

abbrev pub invariant-loop-row : goal.invariant-loop-row
invariant-loop-row l = Indexed (take l.row l.keys) (firsts l.rows) (seconds l.rows)
