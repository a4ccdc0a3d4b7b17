-- `show` meets its contract: it shows the first node of what lies ahead, or nothing lies ahead.
use mathlib.Core.Path.{refl}
use Rattle.cursor.proofs.Promise.{shows_idle, shows_node}
use Rattle.cursor.proofs.Cursor.show.Goals as goal

pub returns-in_err-head : goal.returns-in_err-head
returns-in_err-head c = rw c.from_residual.ensures (shows_idle c.args.bytes.now c.args.self.now c.in_err-head.ensures)

pub returns : goal.returns
returns c = shows_node c.args.bytes.now c.args.self.now _ _ _ c.in_ok-head.ensures c.in_ok-head.head.kind refl
