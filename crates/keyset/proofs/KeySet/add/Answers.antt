-- `add` meets its contract: the one byte of the key gets its bit, if it had it not.
use native.Mathlib.Omega.{arith}
use Rattle.keyset.proofs.Steps.{kept, bit_free, put_in}
use Rattle.keyset.proofs.KeySet.add.Goals as goal

pub returns-then-has_bit : goal.returns-then-has_bit
returns-then-has_bit c = kept c.args.self.now.bytes c.args.key c.from-k.result c.from-k.ensures c.has_bit.result c.has_bit.ensures c.if-has_bit.true

pub with_bit-requires : goal.with_bit-requires
with_bit-requires c = (omega arith, bit_free c.args.self.now.bytes c.args.key c.from-k.result c.from-k.ensures c.has_bit.result c.has_bit.ensures c.if-has_bit.false)

pub returns : goal.returns
returns c = put_in c.args.self.now.bytes c.args.key c.from-k.result c.from-k.ensures c.has_bit.result c.has_bit.ensures c.if-has_bit.false c.with_bit.result c.with_bit.ensures
