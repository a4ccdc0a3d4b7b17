-- `gather` meets its contract: the queue holds the numbers below `k` whose counter is 0.
use native.Mathlib.Omega.{arith}
use Rattle.cycles.proofs.Queues.{queued_none}
use Rattle.cycles.proofs.Steps.{gather_free, gather_skip, gather_room}
use Rattle.cycles.proofs.gather.Goals.{then-left-eq0, else-left-eq0}
use Rattle.cycles.proofs.gather.Goals as goal

pub loop-k-init : goal.loop-k-init
loop-k-init c = queued_none c.args.counters.now c.args.queue.now

pub offset_bounds-queue-tail : goal.offset_bounds-queue-tail
offset_bounds-queue-tail c = omega (arith, gather_room c.args.counters.now c.loop-k.queue c.loop-k.tail c.loop-k.k c.loop-k.invariant, c.requires.counters_in_bounds)

pub bounds-queue-tail : goal.bounds-queue-tail
bounds-queue-tail c = omega (arith, gather_room c.args.counters.now c.loop-k.queue c.loop-k.tail c.loop-k.k c.loop-k.invariant, c.requires.counters_in_bounds)

pub overflow_add-tail : goal.overflow_add-tail
overflow_add-tail c = omega (arith, gather_room c.args.counters.now c.loop-k.queue c.loop-k.tail c.loop-k.k c.loop-k.invariant, c.requires.counters_in_bounds)

pub loop-k-preserved : goal.loop-k-preserved
loop-k-preserved c = elim c.if-left-eq0.branch [
  | then-left-eq0 w ↦ rw (w.queue-is, w.tail-is) (gather_free c.args.counters.now c.loop-k.queue c.loop-k.tail c.loop-k.k c.loop-k.invariant w.if-left-eq0.true (omega (arith, gather_room c.args.counters.now c.loop-k.queue c.loop-k.tail c.loop-k.k c.loop-k.invariant, c.loop-k.auto.queue, c.requires.counters_in_bounds)))
  | else-left-eq0 w ↦ rw (w.queue-is, w.tail-is) (gather_skip c.args.counters.now c.loop-k.queue c.loop-k.tail c.loop-k.k c.loop-k.invariant w.if-left-eq0.false)
]
