-- `with_bit` meets its contract: the sum stays a byte, because the bit was 0.
use mathlib.Core.Path.{ap}
use Prim.Native.Nat.{ℕ, ◌+◌}
use Rattle.keyset.proofs.Bits.{one_shifted}
use Rattle.keyset.proofs.Steps.{room}
use Rattle.keyset.proofs.with_bit.Goals as goal

pub overflow_add-result : goal.overflow_add-result
overflow_add-result c = record { fits = room c.args.byte c.args.i c.requires.0 c.requires.1 c.ranges.byte.fits }

pub returns : goal.returns
returns c = ap (λ (p : ℕ). c.args.byte + p) (one_shifted c.args.i c.requires.0)
