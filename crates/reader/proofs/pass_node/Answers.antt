-- `pass_node` meets its contract: what is left to read after the node comes to what there was before, by the laws of Due.
use Rattle.std.proofs.lemmas.Result.{err_from_is_err_and}
use mathlib.Core.Path.{refl}
use native.Mathlib.Omega.{arith}
use Rattle.reader.proofs.Due.{top_inside, many_inside, refuse, passed}
use Rattle.reader.proofs.pass_node.Goals as goal

pub offset_bounds-due-top : goal.offset_bounds-due-top
offset_bounds-due-top c = omega (arith, top_inside c.args.s.now c.args.due.now c.args.many c.args.left c.args.at c.requires.1 c.requires.0)

pub bounds-due-top : goal.bounds-due-top
bounds-due-top c = top_inside c.args.s.now c.args.due.now c.args.many c.args.left c.args.at c.requires.1 c.requires.0

pub returns-in_err-head : goal.returns-in_err-head
returns-in_err-head c = let p = err_from_is_err_and c.from_residual.result c.from_residual.ensures.1 in
    rw (p.1, p.2) (refuse c.args.s.now c.args.due.now c.args.many c.args.left c.args.at c.requires.1 c.requires.0 _ c.in_err-head.ensures)

pub bounds-due-many : goal.bounds-due-many
bounds-due-many c = many_inside c.args.s.now c.args.due.now c.args.many c.args.left c.args.at c.requires.1 c.requires.0 _ _ _ c.in_ok-head.ensures

pub returns : goal.returns
returns c = passed c.args.s.now c.args.due.now c.args.many c.args.left c.args.at c.requires.1 c.requires.0 _ _ _ c.in_ok-head.ensures _ refl
