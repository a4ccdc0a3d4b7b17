use mathlib.Core.Path.{◌≡◌}
use lib.ListN.{length}
use Rattle.threads.specs.Threads.{Threaded}
use Rattle.threads.proofs.thread_all.Given as goal

abbrev pub invariant-loop-i : goal.invariant-loop-i
invariant-loop-i l =
    (length l.heads ≡ length l.initial.heads) × (length l.counters ≡ length l.initial.counters) × (l.cabinet.latest ≡ l.initial.cabinet.latest) × Threaded l.ranks.set.now.bytes l.initial.cabinet.upper l.initial.cabinet.lower l.i l.cabinet l.heads l.counters
