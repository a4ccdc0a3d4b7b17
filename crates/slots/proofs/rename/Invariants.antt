use Rattle.slots.specs.Slot.{slot}
use Rattle.slots.proofs.Passes.{Renaming}
use Rattle.slots.proofs.rename.Given as goal

abbrev pub invariant-loop-key : goal.invariant-loop-key
invariant-loop-key l = Renaming (slot l.ranks.set.now.bytes) l.initial.key-items l.key-items l.key-index
