-- `concoursel_verdict` meets its contract: the operation's answer, packed.
use Rattle.packing.proofs.Packs.{pack_number, number_told}
use Rattle.concoursel.proofs.concoursel_verdict.Goals as goal

pub returns : goal.returns
returns c = pack_number _ _ _ (number_told _ _ c.packed_number.ensures) c.verdict.ensures
