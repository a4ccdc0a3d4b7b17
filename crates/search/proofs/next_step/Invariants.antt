use mathlib.Core.Path.{◌≡◌}
use Prim.Native.Nat.{ℕ, ◌<◌}
use Rattle.std.specs.Prelude.{None}
use lib.ListN.{get_or}
use Rattle.ccsk.specs.Term.{Term}
use Rattle.partners.specs.Way.{OnWay}
use Rattle.search.specs.First.{Ready}
use Rattle.search.proofs.Reached.{Reached}
use Rattle.search.proofs.next_step.Given as goal

abbrev pub invariant-search : goal.invariant-search
invariant-search l = record {
  way : OnWay l.rows l.i l.way;
  none : l.first ≡ None;
  reached : (t : Term) → Ready t l.rows l.marks → Reached t l.fn.p.0 l.fn.q.0 l.i l.from;
}

abbrev pub invariant-loop-mate : goal.invariant-loop-mate
invariant-loop-mate l = record {
  none : l.first ≡ None;
  before : (k : ℕ) → k < l.mate-index → get_or l.partners k 0 < l.from;
}
