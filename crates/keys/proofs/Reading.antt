-- A record that was read: from what the reader answers to the term and its bytes.
use mathlib.Core.List.{List}
use Prim.Native.Nat.{ℕ}
use Rattle.format.specs.Encode.{Bytes}
use Rattle.format.proofs.Unique.{encode-decode}
use Rattle.operations.specs.Ask.{ReadRecord}
use Rattle.reader.proofs.Whole.{record_reads}
use Rattle.keys.specs.Gather.{Readable}

pub was_read : (s : List ℕ) (n : ℕ) → ReadRecord s 0 n → Bytes s → Readable s
was_read s n R B =
    let w = record_reads s n R in
    let d = encode-decode s w.0 B w.1 in
    (w.0, record { reads = w.1; bytes = d.0; fits = d.1 })
