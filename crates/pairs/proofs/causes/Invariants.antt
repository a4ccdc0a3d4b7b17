use Rattle.cycles.specs.Pair.{firsts, seconds}
use Rattle.pairs.specs.Cause.{CauseBelow}
use Rattle.pairs.proofs.causes.Given as goal

abbrev pub invariant-loop-two : goal.invariant-loop-two
invariant-loop-two l = CauseBelow l.two-index l.columns.actions.now l.columns.ends.now l.columns.scopes.now (firsts l.rows) (seconds l.rows) l.least
