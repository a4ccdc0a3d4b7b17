use Rattle.keys.proofs.Marks.{Front}
use Rattle.keys.proofs.mark_all.Given as goal

abbrev pub invariant-loop-key : goal.invariant-loop-key
invariant-loop-key l = Front l.column l.key-index l.marks.bytes l.n
