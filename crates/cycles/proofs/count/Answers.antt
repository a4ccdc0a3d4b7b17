-- `count` meets its contract: the pairs before the loop's have been counted.
use mathlib.Core.Path.{refl}
use native.Mathlib.Omega.{arith}
use lib.ListN.{get_or, length-set}
use Prim.Native.Nat.{◌+◌}
use Rattle.cycles.proofs.Steps.{none_counted, first_in, second_in, first_fits, second_fits, one_counted}
use Rattle.cycles.specs.Pair.{firsts, seconds}
use Rattle.cycles.proofs.count.Goals as goal

pub loop-two-init : goal.loop-two-init
loop-two-init c = none_counted (firsts c.args.over.now) (seconds c.args.over.now) c.args.counters.now

pub bounds-counters-from : goal.bounds-counters-from
bounds-counters-from c = first_in c.args.over.now c.args.counters.now c.loop-two.counters c.loop-two.two-index c.from.result _ c.loop-two-test.true c.from.ensures refl c.loop-two.auto.counters c.requires.below c.loop-two.invariant

pub overflow_add-counters : goal.overflow_add-counters
overflow_add-counters c = omega (arith, first_fits c.args.over.now c.args.counters.now c.loop-two.counters c.loop-two.two-index c.from.result _ c.loop-two-test.true c.from.ensures refl c.loop-two.auto.counters c.requires.below c.loop-two.invariant c.requires.room)

pub bounds-counters-from-in-loop-two : goal.bounds-counters-from-in-loop-two
bounds-counters-from-in-loop-two c = first_in c.args.over.now c.args.counters.now c.loop-two.counters c.loop-two.two-index c.from.result _ c.loop-two-test.true c.from.ensures refl c.loop-two.auto.counters c.requires.below c.loop-two.invariant

pub offset_bounds-counters-from-in-loop-two : goal.offset_bounds-counters-from-in-loop-two
offset_bounds-counters-from-in-loop-two c = omega (arith, c.from-in-loop-two.type_inv, second_in c.args.over.now c.args.counters.now c.loop-two.counters c.loop-two.two-index c.from.result c.from-in-loop-two.result c.loop-two-test.true c.from.ensures c.from-in-loop-two.ensures c.loop-two.auto.counters c.requires.below c.loop-two.invariant, length-set c.loop-two.counters c.from.result (get_or c.loop-two.counters c.from.result 0 + 1))

pub bounds-counters-from-in-loop-two-2 : goal.bounds-counters-from-in-loop-two-2
bounds-counters-from-in-loop-two-2 c = second_in c.args.over.now c.args.counters.now c.loop-two.counters c.loop-two.two-index c.from.result c.from-in-loop-two.result c.loop-two-test.true c.from.ensures c.from-in-loop-two.ensures c.loop-two.auto.counters c.requires.below c.loop-two.invariant

pub overflow_add-counters-in-loop-two : goal.overflow_add-counters-in-loop-two
overflow_add-counters-in-loop-two c = omega (arith, second_fits c.args.over.now c.args.counters.now c.loop-two.counters c.loop-two.two-index c.from.result c.from-in-loop-two.result c.loop-two-test.true c.from.ensures c.from-in-loop-two.ensures c.loop-two.auto.counters c.requires.below c.loop-two.invariant c.requires.room)

pub bounds-counters-from-in-loop-two-3 : goal.bounds-counters-from-in-loop-two-3
bounds-counters-from-in-loop-two-3 c = second_in c.args.over.now c.args.counters.now c.loop-two.counters c.loop-two.two-index c.from.result c.from-in-loop-two.result c.loop-two-test.true c.from.ensures c.from-in-loop-two.ensures c.loop-two.auto.counters c.requires.below c.loop-two.invariant

pub loop-two-preserved : goal.loop-two-preserved
loop-two-preserved c = one_counted c.args.over.now c.args.counters.now c.loop-two.counters c.loop-two.two-index c.from.result c.from-in-loop-two.result c.loop-two-test.true c.from.ensures c.from-in-loop-two.ensures c.loop-two.auto.counters c.requires.below c.loop-two.invariant
