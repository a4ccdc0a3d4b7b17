-- `meet` meets its contract: a law for each state that a key can be in.
use mathlib.Core.Path.{refl}
use Rattle.settle.specs.Group.{last_at}
use Rattle.settle.proofs.Groups.{met_free, met_scoped, met_half, met_pair, met_apart, met_over}
use Rattle.settle.proofs.meet.Goals as goal

pub returns-then-last-eq0 : goal.returns-then-last-eq0
returns-then-last-eq0 c m x u = met_free c.args.lasts.now (last_at c.args.lasts.now c.args.i).key (last_at c.args.lasts.now c.args.i) u c.in-Once.is c.if-last-eq0.true _ refl

pub returns-else-last-eq0 : goal.returns-else-last-eq0
returns-else-last-eq0 c m x u = met_scoped c.args.lasts.now (last_at c.args.lasts.now c.args.i).key (last_at c.args.lasts.now c.args.i) u c.in-Once.is c.if-last-eq0.false _

pub returns-in-Twice : goal.returns-in-Twice
returns-in-Twice c m x u = met_half c.args.lasts.now (last_at c.args.lasts.now c.args.i).key (last_at c.args.lasts.now c.args.i) u c.in-Twice.is c.args.i c.requires.0 refl

pub returns-then-fit_together : goal.returns-then-fit_together
returns-then-fit_together c m x u = met_pair c.args.lasts.now (last_at c.args.lasts.now c.args.i).key (last_at c.args.lasts.now c.args.i) u c.in-Half.is (rw c.from.ensures at c.if-fit_together.ensures) _ refl

pub returns-else-fit_together : goal.returns-else-fit_together
returns-else-fit_together c m x u = met_apart c.args.lasts.now (last_at c.args.lasts.now c.args.i).key (last_at c.args.lasts.now c.args.i) u c.in-Half.is (rw c.from.ensures at c.if-fit_together.ensures) _

pub returns-in_default : goal.returns-in_default
returns-in_default c m x u = met_over c.args.lasts.now (last_at c.args.lasts.now c.args.i).key (last_at c.args.lasts.now c.args.i) u c.in_default.not-Once c.in_default.not-Twice c.in_default.not-Half _
