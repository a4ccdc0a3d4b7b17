-- `prefix_at` meets its contract: each way out is one law of Heads.
use mathlib.Core.Path.{refl}
use Rattle.reader.proofs.Heads.{prefix_cut, prefix_no_action, prefix_found}
use Rattle.reader.proofs.prefix_at.Goals as goal
use Rattle.reader.proofs.prefix_at.Goals.{then-s-from-via-then-s-from, then-s-from-via-else-s-from+then-s-from-2}

pub returns-then-s-from : goal.returns-then-s-from
returns-then-s-from c = elim c.then-s-from.branch [
  | then-s-from-via-then-s-from w ↦ (refl, prefix_cut c.args.s.now c.args.at c.body-body.result c.requires c.body-body.ensures w.if-s-from.true)
  | then-s-from-via-else-s-from+then-s-from-2 w ↦ (refl, prefix_no_action c.args.s.now c.args.at c.body-body.result c.requires c.body-body.ensures w.if-s-from.false w.if-s-from-2.true)
]

pub returns : goal.returns
returns c = rw c.children.ensures (prefix_found c.args.s.now c.args.at c.body-body.result c.requires c.body-body.ensures c.if-s-from.false c.if-s-from-2.false)
