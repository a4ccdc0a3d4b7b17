-- `concoursel_forward` meets its contract: the operation's answer, packed.
use Rattle.packing.proofs.Packs.{pack_step, step_told}
use Rattle.concoursel.proofs.concoursel_forward.Goals as goal

pub returns : goal.returns
returns c = pack_step _ _ _ _ (step_told _ _ c.packed_step.ensures) c.forward.ensures
