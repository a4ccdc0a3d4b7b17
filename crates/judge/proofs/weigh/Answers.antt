-- `weigh` meets its contract: the lowest of the conditions 3 to 6 that fails, and then whether there is a cycle.
use mathlib.Core.Path.{sym, ◌∙◌}
use Rattle.cycles.specs.Pair.{firsts, seconds}
use Rattle.judge.proofs.Steps.{none, decided_found, may_order, decided_sound, decided_cycle}
use Rattle.judge.proofs.weigh.Goals.{then-is_some-via-then-is_some, then-is_some-via-else-is_some+then-ordering}
use Rattle.judge.proofs.weigh.Goals as goal

pub ordering-requires-clause-noted : goal.ordering-requires-clause-noted
ordering-requires-clause-noted c = may_order c.args.columns.now c.args.rows.now c.requires.slotted c.pairing-least.new.rows c.pairing-least.auto.rows c.pairing-least.result c.pairing-least.ensures (none c.pairing-least.result (sym c.is_some.ensures ∙ c.if-is_some.false))

pub returns-then-is_some : goal.returns-then-is_some
returns-then-is_some c = elim c.then-is_some.branch [
  | then-is_some-via-then-is_some w ↦ decided_found c.args.columns.now c.args.rows.now c.requires.slotted c.pairing-least.new.rows c.pairing-least.auto.rows c.pairing-least.result c.pairing-least.ensures (sym c.is_some.ensures ∙ w.if-is_some.true)
  | then-is_some-via-else-is_some+then-ordering w ↦ decided_sound c.args.columns.now c.args.rows.now c.requires.slotted c.pairing-least.new.rows c.pairing-least.auto.rows c.pairing-least.result c.pairing-least.ensures (none c.pairing-least.result (sym c.is_some.ensures ∙ w.if-is_some.false)) (firsts w.ordering.new.rows) (seconds w.ordering.new.rows) w.ordering.result w.ordering.ensures w.if-ordering.true
]

pub returns : goal.returns
returns c = decided_cycle c.args.columns.now c.args.rows.now c.requires.slotted c.pairing-least.new.rows c.pairing-least.auto.rows c.pairing-least.result c.pairing-least.ensures (none c.pairing-least.result (sym c.is_some.ensures ∙ c.if-is_some.false)) (firsts c.ordering.new.rows) (seconds c.ordering.new.rows) c.ordering.result c.ordering.ensures c.if-ordering.false
