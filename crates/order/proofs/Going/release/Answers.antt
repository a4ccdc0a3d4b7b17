-- `release` meets its contract.
use mathlib.Core.Path.{refl}
use native.Mathlib.Omega.{arith}
use Rattle.order.proofs.Releasing.{release_came, release_fell}
use Rattle.order.proofs.Going.release.Goals as goal

pub returns-then-left-eq0 : goal.returns-then-left-eq0
returns-then-left-eq0 c = (
  release_came _ c.args.u c.args.self.now.counters c.args.self.now.free.tree _ _ (omega (arith, c.requires.u_lt_n.2)) c.if-left-eq0.true c.put.ensures.0,
  c.put.ensures.1,
)

pub returns-else-left-eq0 : goal.returns-else-left-eq0
returns-else-left-eq0 c = (
  release_fell _ c.args.u c.args.self.now.counters c.args.self.now.free.tree _ c.requires.u_lt_n.2 (omega (arith, c.requires.u_lt_n.2)) c.if-left-eq0.false,
  refl,
)
