-- `note` meets its contract: the key stands where the search finds it, and nowhere else.
use native.Mathlib.Omega.{arith}
use Rattle.std.specs.Prelude.{Ok, Err}
use Rattle.std.proofs.lemmas.List.Sorted.{searched}
use Rattle.labels.proofs.Search.{ascends, noted_one, noted_none}
use Rattle.labels.proofs.note.Goals as goal

pub returns-in-Ok : goal.returns-in-Ok
returns-in-Ok c = let w = searched c.args.row.now c.args.key (Ok c.in-Ok.i) c.in-Ok.ensures.position (ascends c.args.row.now c.requires.0) in
    noted_one c.args.row.now c.requires.0 c.args.key c.args.action c.args.labels.now c.in-Ok.i w.0 w.1 (omega (arith, w.0, c.requires.1, c.told-labels)) c.join.result c.join.ensures

pub returns-in_default : goal.returns-in_default
returns-in_default c = let w = searched c.args.row.now c.args.key (Err c.in_default.field-0) c.in_default.ensures.position (ascends c.args.row.now c.requires.0) in
    noted_none c.args.row.now c.requires.0 c.args.key c.args.action c.args.labels.now c.in_default.field-0 w.1 w.2
