-- `concoursel_first` meets its contract: the operation's answer, packed.
use Rattle.packing.proofs.Packs.{pack_first, first_told}
use Rattle.concoursel.proofs.concoursel_first.Goals as goal

pub returns : goal.returns
returns c = pack_first _ _ _ _ _ _ (first_told _ _ c.packed_first.ensures) c.first_step.ensures
