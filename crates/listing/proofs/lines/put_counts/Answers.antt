-- `put_counts` is safe: the counts of a record fit 16 bits.
use native.Mathlib.Omega.{arith}
use Rattle.reader.proofs.Whole.{slice_bytes}
use Rattle.operations.proofs.Bounds.{count_small, free_small}
use Rattle.listing.proofs.lines.put_counts.Goals as goal

pub number-requires : goal.number-requires
number-requires c = let s = c.args.bytes.now in omega (arith, (count_small s (slice_bytes s (λ i. omega (arith, c.type_inv.bytes i))) c.count.ensures).1)

pub number-requires-2 : goal.number-requires-2
number-requires-2 c = let s = c.args.bytes.now in omega (arith, (free_small s (slice_bytes s (λ i. omega (arith, c.type_inv.bytes i))) c.least_free.ensures).1)
