use Prim.Native.Nat.{◌*◌}
use Rattle.keyset.specs.Set.{Listed}
use Rattle.keyset.proofs.KeySet.list.Given as goal

abbrev pub invariant-loop-i : goal.invariant-loop-i
invariant-loop-i l = Listed l.self.bytes l.initial.row (l.i * 8) l.m l.row
