-- `gather` meets its contract: the reader decides whether there is a record to scan.
use native.Mathlib.Omega.{arith}
use Rattle.reader.proofs.Whole.{slice_bytes}
use Rattle.keys.proofs.Reading.{was_read}
use Rattle.keys.proofs.gather.Goals as goal

pub scan-requires-clause-readable : goal.scan-requires-clause-readable
scan-requires-clause-readable c = was_read c.args.s.now _ c.in_ok-read.ensures (slice_bytes c.args.s.now (λ i. omega (arith, c.type_inv.s i)))
