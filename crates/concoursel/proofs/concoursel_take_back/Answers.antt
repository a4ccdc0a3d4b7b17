-- `concoursel_take_back` meets its contract: the operation's answer, packed.
use Rattle.packing.proofs.Packs.{pack_both, number_told}
use Rattle.concoursel.proofs.concoursel_take_back.Goals as goal

pub returns : goal.returns
returns c = pack_both _ _ _ _ _ (number_told _ _ c.packed_number.ensures) c.take_back.ensures
