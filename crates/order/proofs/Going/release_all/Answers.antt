-- `release_all` meets its contract: in every scene what stands above the key is released row by row.
use native.Mathlib.Omega.{arith}
use mathlib.Core.Path.{◌∙◌}
use Rattle.order.proofs.Releasing.{released_all, released_on, upper_absent, upper_counted, upper_number}
use Rattle.order.proofs.Going.release_all.Goals as goal

pub release-requires-clause-board : goal.release-requires-clause-board
release-requires-clause-board c = rw c.loop-link.invariant.0 (c.loop-link.invariant.1 c.requires.0 c.requires.1 c.requires.2).board

pub release-requires-clause-u_lt_n : goal.release-requires-clause-u_lt_n
release-requires-clause-u_lt_n c =
    let t = c.loop-link.invariant.1 c.requires.0 c.requires.1 c.requires.2 in
    rw (c.loop-link.invariant.0, c.from.ensures) (
      upper_number _ _ _ _ _ _ t c.loop-link-test.true,
      c.requires.0.few,
      upper_counted _ _ _ _ _ _ t c.loop-link-test.true,
      upper_absent _ _ _ _ _ _ t c.loop-link-test.true,
    )

pub loop-link-preserved : goal.loop-link-preserved
loop-link-preserved c = (
  c.release.ensures.1 ∙ c.loop-link.invariant.0,
  λ d out t. released_on _ _ _ _ _ _ (c.loop-link.invariant.1 d out t) c.loop-link-test.true c.from.result c.from-link-in-loop-link.result c.from.ensures c.from-link-in-loop-link.ensures _ _ (rw c.loop-link.invariant.0 at c.release.ensures.0),
)

pub returns : goal.returns
returns c = record {
  many = c.loop-link.invariant.0;
  released = λ d out t. released_all _ _ _ _ _ _ (c.loop-link.invariant.1 d out t) (omega (arith, c.loop-link-test.false));
}
