-- `thread` meets its contract: a row is passed, or the numbers of its keys are written.
use mathlib.Core.Path.{sym, ◌∙◌}
use Rattle.threads.specs.Threads.{passed, threaded}
use Rattle.threads.proofs.thread.Goals as goal

pub returns-then-not-has : goal.returns-then-not-has
returns-then-not-has c = passed (sym c.has.ensures ∙ c.if-not-has.true)

pub returns : goal.returns
returns c = threaded _ _ (sym c.has.ensures ∙ c.if-not-has.false) c.number-u.ensures.is c.number-l.ensures.is
