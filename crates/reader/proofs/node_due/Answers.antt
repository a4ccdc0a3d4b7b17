-- `node_due` meets its contract: each return is one law of Laws.
use mathlib.Core.Logic.{inl, inr}
use Rattle.reader.proofs.Laws.{stops_end, stops_deep, stops_left, due_head}
use Rattle.reader.proofs.node_due.Goals as goal

pub returns-then-s-at : goal.returns-then-s-at
returns-then-s-at c = stops_end c.args.s.now c.args.at c.args.deep c.args.left c.if-s-at.true

pub returns-then-deep-eq0 : goal.returns-then-deep-eq0
returns-then-deep-eq0 c = elim c.then-deep-eq0.either [
  | inl e ↦ stops_deep c.args.s.now c.args.at c.args.deep c.args.left c.if-s-at.false e
  | inr e ↦ stops_left c.args.s.now c.args.at c.args.deep c.args.left c.if-s-at.false e.1
]

pub returns : goal.returns
returns c = due_head c.args.s.now c.args.at c.args.deep c.args.left c.node_at.result c.if-s-at.false c.if-deep-eq0.false c.if-left-eq0.false c.node_at.ensures
