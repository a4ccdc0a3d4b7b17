-- `restriction_at` meets its contract: each way out is one law of Heads.
use mathlib.Core.Path.{refl}
use Rattle.reader.proofs.Heads.{restriction_cut, restriction_zero, restriction_large, restriction_found}
use Rattle.reader.proofs.restriction_at.Goals as goal
use Rattle.reader.proofs.restriction_at.Goals.{then-s-from-via-then-s-from, then-s-from-via-else-s-from+then-s-from-eq0, then-s-from-via-else-s-from+else-s-from-eq0+then-s-from-gt-LAST_NAME}

pub returns-then-s-from : goal.returns-then-s-from
returns-then-s-from c = elim c.then-s-from.branch [
  | then-s-from-via-then-s-from w ↦ (refl, restriction_cut c.args.s.now c.args.at c.body-body.result c.requires c.body-body.ensures w.if-s-from.true)
  | then-s-from-via-else-s-from+then-s-from-eq0 w ↦ (refl, restriction_zero c.args.s.now c.args.at c.body-body.result c.requires c.body-body.ensures w.if-s-from.false w.if-s-from-eq0.true)
  | then-s-from-via-else-s-from+else-s-from-eq0+then-s-from-gt-LAST_NAME w ↦ (refl, restriction_large c.args.s.now c.args.at c.body-body.result c.requires c.body-body.ensures w.if-s-from.false w.if-s-from-eq0.false w.if-s-from-gt-LAST_NAME.true)
]

pub returns : goal.returns
returns c = rw c.children.ensures (restriction_found c.args.s.now c.args.at c.body-body.result c.requires c.body-body.ensures c.if-s-from.false c.if-s-from-eq0.false c.if-s-from-gt-LAST_NAME.false)
