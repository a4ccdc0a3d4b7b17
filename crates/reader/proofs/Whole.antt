-- A whole record: what the reading of its first term says of all its bytes.
use mathlib.Core.Path.{◌≡◌, refl}
use mathlib.Core.Logic.{◌⊎◌, inl, inr, ⊎_elim}
use mathlib.Core.List.{List, [], ◌∷◌}
use Prim.Native.Nat.{ℕ, suc, ◌<◌, ◌≤◌}
use native.Mathlib.Omega.{arith}
use lib.ListN.{length, get_or, drop_of_length-le}
use lib.Seq.{drop-cons}
use Rattle.ccsk.specs.Term.{Term, size}
use Rattle.ccsk.proofs.Basic.{size_pos}
use Rattle.format.specs.Limits.{node_limit, depth_limit}
use Rattle.format.specs.Read.{finish, decode, Reads, Refuses}
use Rattle.format.specs.Encode.{Bytes}
use Rattle.format.proofs.Refusals.{decode_refusals}
use Rattle.operations.specs.Ask.{ReadRecord, unreadable, done}
use Rattle.reader.specs.Walk.{Stops, Walks}

module _ (s : List ℕ) where
  pub refuses_stopped : (c : ℕ) → Stops s 0 depth_limit node_limit c → Refuses s c
  unfolding decode finish
  refuses_stopped c h = rw h

  module _ (t : Term) (next l : ℕ) (W : Walks s 0 depth_limit node_limit t next l) where
    -- bytes after the whole term
    pub refuses_trailing : next < length s → Refuses s 1
    unfolding decode finish
    refuses_trailing h = rw (W.reads, drop-cons s next 0 h)

    pub reads_whole : length s ≤ next → Reads s t
    unfolding decode finish
    reads_whole h = rw (W.reads, drop_of_length-le s h)

-- what the answer of `read` says
pub record_cases : (s : List ℕ) (c n : ℕ) → ReadRecord s c n → (Refuses s c × (n ≡ 0)) ⊎ ((t : Term) × Reads s t × (c ≡ 0) × (n ≡ size t))
record_cases s c n (unreadable e) = inl (e, refl)
record_cases s c n (done {t} e) = inr (t, e, refl, refl)

pub record_refused : (s : List ℕ) (c : ℕ) → ReadRecord s c 0 → Refuses s c
record_refused s c r = ⊎_elim (λ u. u.0) (λ u. absurd (omega (arith, u.3, size_pos u.0))) (record_cases s c 0 r)

pub record_reads : (s : List ℕ) (n : ℕ) → ReadRecord s 0 n → (t : Term) × Reads s t
record_reads s n r = ⊎_elim (λ u. ⊎_elim (λ z. absurd (omega arith)) (λ z. absurd (omega arith)) (decode_refusals s 0 u.0)) (λ u. (u.0, u.1)) (record_cases s 0 n r)

-- a slice holds bytes
pub slice_bytes : (s : List ℕ) → ((i : ℕ) → get_or s i 0 < 256) → Bytes s
slice_bytes [] h = tt
slice_bytes (b ∷ s) h = (h 0, slice_bytes s (λ i. h (suc i)))
