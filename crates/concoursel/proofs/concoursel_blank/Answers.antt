-- `concoursel_blank` meets its contract: the operation's answer, packed.
use Rattle.packing.proofs.Packs.{pack_lent, number_told}
use Rattle.concoursel.proofs.concoursel_blank.Goals as goal

pub returns : goal.returns
returns c = pack_lent _ _ _ _ (number_told _ _ c.packed_number.ensures) c.blank.ensures
