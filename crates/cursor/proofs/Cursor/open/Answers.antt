-- `open` meets its contract: a record that is read is the record of its term, so that its root is due.
use mathlib.Core.Path.{refl}
use native.Mathlib.Omega.{arith}
use Rattle.reader.proofs.Whole.{record_refused, record_reads, slice_bytes}
use Rattle.cursor.proofs.Promise.{opens_refused, opens_standing}
use Rattle.cursor.proofs.Cursor.open.Goals as goal

pub returns-in-Err : goal.returns-in-Err
returns-in-Err c = opens_refused c.args.bytes.now _ _ (record_refused c.args.bytes.now _ c.in-Err.ensures) c.from.ensures refl

pub returns-in-Ok : goal.returns-in-Ok
returns-in-Ok c = let r = record_reads c.args.bytes.now _ c.in-Ok.ensures in
    opens_standing c.args.bytes.now r.0 _ (slice_bytes c.args.bytes.now (λ i. omega (arith, c.type_inv.bytes i))) r.1 refl refl refl refl refl refl
