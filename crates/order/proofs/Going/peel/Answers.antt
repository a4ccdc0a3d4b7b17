-- `peel` meets its contract: in every scene the least number that is there is that of the next key.
use mathlib.Core.Path.{refl, ◌∙◌}
use lib.Dec.{lit<}
use Rattle.order.proofs.Peeling.{peeled_all, peeled_none, peeled_one, some_free, some_left, taken_out}
use Rattle.order.proofs.Going.peel.Goals as goal

pub loop-out-init : goal.loop-out-init
loop-out-init c = (refl, λ d t. peeled_none d c.args.row.now c.args.self.now.counters c.args.self.now.free.tree t)

pub take-r-requires : goal.take-r-requires
take-r-requires c =
    let p = c.loop-out.invariant.1 c.requires.peelable.0 c.requires.peelable.1 in
    rw c.loop-out.invariant.0 (lit< tt, (p.state.board, some_free _ _ _ _ p.state (some_left _ _ _ _ _ _ p c.loop-out-test.true)))

pub release_all-requires : goal.release_all-requires
release_all-requires c =
    let p = c.loop-out.invariant.1 c.requires.peelable.0 c.requires.peelable.1 in
    rw (c.take-r.ensures.1, c.loop-out.invariant.0) (c.requires.peelable.0, p.out, taken_out _ _ _ _ p.state _ _ (rw c.loop-out.invariant.0 at c.take-r.ensures.0))

pub loop-out-preserved : goal.loop-out-preserved
loop-out-preserved c = (
  c.release_all.ensures.many ∙ c.take-r.ensures.1 ∙ c.loop-out.invariant.0,
  λ d t.
      let p = c.loop-out.invariant.1 d t in
      let w = rw c.loop-out.invariant.0 at c.take-r.ensures.0 in
      let f = rw (c.take-r.ensures.1, c.loop-out.invariant.0) at c.release_all.ensures.released in
      peeled_one _ _ _ _ _ _ p c.loop-out-test.true c.requires.n_in_bounds c.take-r.result _ w _ _ (f d p.out (taken_out _ _ _ _ p.state _ _ w)),
)

pub returns : goal.returns
returns c = λ d t. peeled_all _ _ _ _ _ _ (c.loop-out.invariant.1 d t) c.loop-out-test.false
