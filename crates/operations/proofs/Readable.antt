-- What every law on bytes leans on: refusal 0 is none, bytes are read as one term, and they are that term's record.
use mathlib.Core.Path.{◌≡◌}
use mathlib.Core.Logic.{⊎_elim}
use mathlib.Core.List.{List}
use Prim.Native.Nat.{ℕ}
use native.Mathlib.Omega.{arith}
use Rattle.ccsk.specs.Term.{Term}
use Rattle.format.specs.Read.{Reads, Refuses}
use Rattle.format.specs.Encode.{encode, Fits, Bytes}
use Rattle.format.proofs.Unique.{encode-decode}
use Rattle.format.proofs.Refusals.{decode_refusals}

-- refusal number 0 means done
pub not_refused_zero : {A : Type 0} (s : List ℕ) → Refuses s 0 → A
not_refused_zero s e = absurd (⊎_elim (λ z. omega arith) (λ z. omega arith) (decode_refusals s 0 e))

pub reads_one : (s : List ℕ) {t u : Term} → Reads s t → Reads s u → t ≡ u
reads_one s e f = cc

pub encode_read : (s : List ℕ) {t : Term} → Bytes s → Reads s t → encode t ≡ s
encode_read s {t} h e = (encode-decode s t h e).0

pub read_fits : (s : List ℕ) {t : Term} → Bytes s → Reads s t → Fits t
read_fits s {t} h e = (encode-decode s t h e).1
