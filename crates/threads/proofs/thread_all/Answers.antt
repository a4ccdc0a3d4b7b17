-- `thread_all` meets its contract: the rows before `i` are threaded.
use native.Mathlib.Omega.{arith}
use mathlib.Core.Path.{refl, ◌∙◌}
use Rattle.threads.proofs.Threading.{all_threaded, row_latest, row_threaded, threaded_none}
use Rattle.threads.proofs.thread_all.Goals as goal

pub loop-i-init : goal.loop-i-init
loop-i-init c = (refl, refl, refl, threaded_none _ _ _ _ _ c.requires.sortable c.args.cabinet.now _ _ refl refl c.requires.ready)

pub loop-i-preserved : goal.loop-i-preserved
loop-i-preserved c = (
  c.thread.auto.heads ∙ c.loop-i.invariant.0,
  c.thread.auto.counters ∙ c.loop-i.invariant.1,
  row_latest _ _ _ _ _ _ _ _ c.thread.ensures ∙ c.loop-i.invariant.2,
  row_threaded _ _ _ _ _ c.requires.sortable _ _ _ _ c.loop-i.invariant.3 (omega arith) (omega (arith, c.loop-i.invariant.0, c.requires.ready.heads)) (omega (arith, c.loop-i.invariant.1, c.requires.ready.counters)) _ _ _ c.thread.ensures,
)

pub returns-clause-threaded : goal.returns-clause-threaded
returns-clause-threaded c = all_threaded _ _ _ _ _ c.requires.sortable _ _ _ _ c.loop-i.invariant.3 (omega (arith, c.loop-i-test.false)) (omega arith)
