-- `has_bit` meets its contract: what a shift leaves modulo 2 is the bit.
use Rattle.keyset.proofs.Steps.{tested}
use Rattle.keyset.proofs.has_bit.Goals as goal

pub returns : goal.returns
returns c = tested c.args.byte c.args.i
