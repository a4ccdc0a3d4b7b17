-- `peel` meets its contract: before each turn the first `head` numbers of the queue have been taken out, and a turn releases what is right above the next.
use native.Mathlib.Omega.{arith}
use Rattle.cycles.specs.Pair.{firsts, seconds}
use Rattle.cycles.proofs.Pairs.{firsts-length}
use Rattle.cycles.proofs.Rounds.{start}
use Rattle.cycles.proofs.Turn.{x_below, first_asked, second_asked, turn_done, head_below, at_end}
use Rattle.cycles.proofs.peel.Goals as goal

pub loop-head-init : goal.loop-head-init
loop-head-init c = start (firsts c.args.over.now) (seconds c.args.over.now) c.args.counters.now c.args.queue.now c.args.free c.requires.columns c.requires.queued c.requires.tallied

pub offset_bounds-queue-head : goal.offset_bounds-queue-head
offset_bounds-queue-head c = omega (arith, head_below c.args.over.now c.loop-head.counters c.loop-head.queue c.loop-head.head c.loop-head.tail c.loop-head.invariant c.loop-head-test.true, c.loop-head.auto.queue, c.requires.room, firsts-length c.args.over.now)

pub bounds-queue-head : goal.bounds-queue-head
bounds-queue-head c = omega (arith, head_below c.args.over.now c.loop-head.counters c.loop-head.queue c.loop-head.head c.loop-head.tail c.loop-head.invariant c.loop-head-test.true, c.loop-head.auto.queue, c.requires.room, firsts-length c.args.over.now)

pub bounds-over-from : goal.bounds-over-from
bounds-over-from c = x_below c.args.over.now c.loop-head.counters c.loop-head.queue c.loop-head.head c.loop-head.tail c.from.result (omega (arith, c.loop-head.auto.counters, c.requires.sized, firsts-length c.args.over.now)) (omega (arith, c.loop-head.auto.queue, c.requires.room, firsts-length c.args.over.now)) c.loop-head.invariant c.loop-head-test.true c.from.ensures

pub release-tail-requires : goal.release-tail-requires
release-tail-requires c = let h = first_asked c.args.over.now c.loop-head.counters c.loop-head.queue c.loop-head.head c.loop-head.tail c.from.result (omega (arith, c.loop-head.auto.counters, c.requires.sized, firsts-length c.args.over.now)) (omega (arith, c.loop-head.auto.queue, c.requires.room, firsts-length c.args.over.now)) c.loop-head.invariant c.loop-head-test.true c.from.ensures in record { u_in_bounds = h.0; nonzero = h.1.0; tail_in_bounds = h.1.1 }

pub release-tail-requires-in-loop-head : goal.release-tail-requires-in-loop-head
release-tail-requires-in-loop-head c = let h = second_asked c.args.over.now c.loop-head.counters c.loop-head.queue c.loop-head.head c.loop-head.tail c.from.result (omega (arith, c.loop-head.auto.counters, c.requires.sized, firsts-length c.args.over.now)) (omega (arith, c.loop-head.auto.queue, c.requires.room, firsts-length c.args.over.now)) c.loop-head.invariant c.loop-head-test.true c.from.ensures c.release-tail.new.counters c.release-tail.new.queue c.release-tail.result c.release-tail.ensures in record { u_in_bounds = h.0; nonzero = h.1.0; tail_in_bounds = h.1.1 }

pub loop-head-smaller : goal.loop-head-smaller
loop-head-smaller c = omega (arith, head_below c.args.over.now c.loop-head.counters c.loop-head.queue c.loop-head.head c.loop-head.tail c.loop-head.invariant c.loop-head-test.true)

pub loop-head-preserved : goal.loop-head-preserved
loop-head-preserved c = turn_done c.args.over.now c.loop-head.counters c.loop-head.queue c.loop-head.head c.loop-head.tail c.from.result (omega (arith, c.loop-head.auto.counters, c.requires.sized, firsts-length c.args.over.now)) (omega (arith, c.loop-head.auto.queue, c.requires.room, firsts-length c.args.over.now)) c.loop-head.invariant c.loop-head-test.true c.from.ensures c.release-tail.new.counters c.release-tail.new.queue c.release-tail.result c.release-tail.ensures c.release-tail-in-loop-head.new.counters c.release-tail-in-loop-head.new.queue c.release-tail-in-loop-head.result c.release-tail-in-loop-head.ensures

pub returns : goal.returns
returns c = at_end c.args.over.now c.loop-head.counters c.loop-head.queue c.loop-head.head c.loop-head.tail c.loop-head.invariant (omega arith) (omega (arith, c.loop-head.auto.counters, c.requires.sized, firsts-length c.args.over.now))
