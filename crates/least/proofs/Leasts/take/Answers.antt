-- `take` meets its contract: the least waits outside or stands at the root.
use native.Mathlib.Omega.{arith}
use mathlib.Core.Path.{refl}
use mathlib.Core.Logic.{inr}
use Rattle.least.proofs.Boards.{took_outside, took_root, root_number}
use Rattle.least.proofs.Leasts.take.Goals as goal

pub returns-then-outside-root : goal.returns-then-outside-root
returns-then-outside-root g c = (took_outside c.args.self.now.n c.args.self.now.tree c.requires.board c.requires.some c.if-outside-root.true c.from.result c.from.ensures, refl)

pub place-requires : goal.place-requires
place-requires g c = (search, (c.requires.board.whole, (omega (arith, c.from-least.ensures, root_number c.args.self.now.n c.args.self.now.tree c.requires.board c.requires.some c.if-outside-root.false), inr refl)))

pub returns : goal.returns
returns g c = (took_root c.args.self.now.n c.args.self.now.tree c.requires.board c.requires.some c.if-outside-root.false c.from-least.result c.from-least.ensures _ c.place.ensures.0, c.place.ensures.1)
