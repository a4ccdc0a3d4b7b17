-- `settle` meets its contract: each key stands as its first i lasts say.
use native.Mathlib.Omega.{arith}
use mathlib.Core.Path.{refl}
use lib.ListN.{length-set}
use Rattle.noting.specs.Node.{noted_keys}
use Rattle.settle.proofs.Groups.{few_ranks, row_key, half_at, settled_none, settled_next}
use Rattle.settle.proofs.settle.Goals as goal

pub tally-requires-clause-counted : goal.tally-requires-clause-counted
tally-requires-clause-counted c = (few_ranks c.args.notes.now.keys c.args.ranking.now.set.now.bytes c.args.notes.now.key_count c.requires.keys.0 c.requires.keys.1 c.requires.keys.2, c.requires.keys.1, c.requires.keys.2)

pub loop-i-init : goal.loop-i-init
loop-i-init c = (refl, omega arith, omega arith, omega arith, settled_none c.args.ranking.now.set.now.bytes (noted_keys c.args.notes.now) c.args.notes.now.lasts c.tally.new.states c.args.notes.now.keys c.requires.keys.2 c.tally.ensures, refl, refl, refl)

pub place-r-requires : goal.place-r-requires
place-r-requires c = let v = c.loop-i.invariant in
    (few_ranks c.args.notes.now.keys c.args.ranking.now.set.now.bytes c.args.notes.now.key_count c.requires.keys.0 c.requires.keys.1 c.requires.keys.2, rw v.0 (row_key c.args.ranking.now.set.now.bytes c.args.notes.now.lasts c.loop-i.i c.args.notes.now.last_count c.loop-i-test.true (omega (arith, rw v.0 at v.1, c.requires.lasts.0)) c.requires.lasts.1).1)

pub meet-met-requires : goal.meet-met-requires
meet-met-requires c = let v = c.loop-i.invariant in
    let k = row_key c.args.ranking.now.set.now.bytes c.args.notes.now.lasts c.loop-i.i c.args.notes.now.last_count c.loop-i-test.true (omega (arith, rw v.0 at v.1, c.requires.lasts.0)) c.requires.lasts.1 in
    (omega (arith, c.requires.lasts.0, c.loop-i-test.true), half_at c.args.ranking.now.set.now.bytes (noted_keys c.args.notes.now) c.args.notes.now.lasts _ c.loop-i.states c.loop-i.notes.keys _ c.place-r.result v.4 k.0 k.1 (rw v.0 at c.place-r.ensures.0))

pub loop-i-preserved : goal.loop-i-preserved
loop-i-preserved c = let v = c.loop-i.invariant in
    let l = rw v.0 at v.1 in
    let k = row_key c.args.ranking.now.set.now.bytes c.args.notes.now.lasts c.loop-i.i c.args.notes.now.last_count c.loop-i-test.true (omega (arith, l, c.requires.lasts.0)) c.requires.lasts.1 in (
      v.0,
      v.1,
      simp length-set v.2,
      simp length-set v.3,
      settled_next c.args.ranking.now.set.now.bytes (noted_keys c.args.notes.now) c.args.notes.now.lasts c.loop-i.i c.loop-i.states c.loop-i.notes.keys c.meet-met.result.state c.meet-met.result.slot c.place-r.result
          (omega (arith, l, c.requires.lasts.0, c.loop-i-test.true)) k (rw v.0 at c.place-r.ensures.0) (omega (arith, v.3, c.place-r.ensures.1)) (omega (arith, v.2, c.place-r.ensures.1)) (rw v.0 at c.meet-met.ensures) v.4,
      v.5,
      v.6,
      v.7,
    )
