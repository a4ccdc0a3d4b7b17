-- `concoursel_least_free` meets its contract: the operation's answer, packed.
use Rattle.packing.proofs.Packs.{pack_number, number_told}
use Rattle.concoursel.proofs.concoursel_least_free.Goals as goal

pub returns : goal.returns
returns c = pack_number _ _ _ (number_told _ _ c.packed_number.ensures) c.least_free.ensures
