-- `has` meets its contract: it tests the bit that stands for the key.
use Rattle.keyset.proofs.Steps.{found}
use Rattle.keyset.proofs.KeySet.has.Goals as goal

pub returns : goal.returns
returns c = found c.args.self.now.bytes c.args.key c.from-k.result c.from-k.ensures c.has_bit.result c.has_bit.ensures
