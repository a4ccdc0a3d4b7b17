-- What an undo listing leaves in a row is as the labels ask for it.
use mathlib.Core.Path.{◌≡◌}
use mathlib.Core.Logic.{⊎_elim}
use mathlib.Core.List.{List, [], ◌∷◌}
use Prim.Native.Nat.{ℕ, zero, suc, ◌<◌, ◌≤◌}
use native.Mathlib.Omega.{arith}
use lib.ListN.{length, get_or, drop, take, replicate, length-append, length-drop, get_or-replicate}
use Rattle.std.proofs.Math.Seq.{take-append_seam}
use Rattle.ccsk.specs.Numbers.{AscendingFrom}
use Rattle.format.specs.Encode.{Bytes}
use Rattle.format.proofs.Unique.{encode-decode}
use Rattle.format.proofs.Refusals.{decode_refusals}
use Rattle.operations.specs.Ask.{Filled, short, filled, UndoListing, UndoListing.unreadable, UndoListing.done}
use Rattle.keys.specs.Gather.{Readable}
use Rattle.labels.specs.Labels.{no_label, Rising, Unlabelled}

-- each number of an ascending list is above where it begins, and below those after it
above : (n : ℕ) (l : List ℕ) → AscendingFrom n l → (i : ℕ) → i < length l → n < get_or l i 0
above n [] a i h = absurd (omega arith)
above n (b ∷ l) a zero h = a.0
above n (b ∷ l) a (suc i) h = omega (arith, a.0, above b l a.1 i (omega arith))

ascending : (n : ℕ) (l : List ℕ) → AscendingFrom n l → (i j : ℕ) → i < j → j < length l → get_or l i 0 < get_or l j 0
ascending n [] a i j h g = absurd (omega arith)
ascending n (b ∷ l) a i zero h g = absurd (omega arith)
ascending n (b ∷ l) a zero (suc j) h g = above b l a.1 j (omega arith)
ascending n (b ∷ l) a (suc i) (suc j) h g = ascending b l a.1 i j (omega arith) (omega arith)

rising : (l : List ℕ) → AscendingFrom 0 l → Rising l
rising l a = record { positive = above 0 l a; ascend = ascending 0 l a }

row_rising : {l row row' : List ℕ} {r n : ℕ} → AscendingFrom 0 l → r ≡ 0 → Filled l row r n row' → Rising (take n row') × (n ≤ length row) × (length row' ≡ length row)
row_rising {l} {row} a z (short h) = absurd (omega arith)
row_rising {l} {row} a z (filled h) = (rw (take-append_seam l (drop (length l) row)) (rising l a), h, omega (arith, length-append l (drop (length l) row), length-drop (length l) row))

-- The record is readable, its listed keys ascend, and there are no more than the row has places.
pub listing_rising : {s row row' : List ℕ} {r n : ℕ} → Bytes s → r ≡ 0 → UndoListing s row r n row' → Readable s × Rising (take n row') × (n ≤ length row) × (length row' ≡ length row)
listing_rising {s} B z (unreadable {c = c} e) = absurd (⊎_elim (λ y. omega arith) (λ y. omega arith) (decode_refusals s c e))
listing_rising {s} B z (done {t = t} e L f) = let d = encode-decode s t B e in let p = row_rising L.0 z f in ((t, record { reads = e; bytes = d.0; fits = d.1 }), p.0, p.1, p.2)

-- an array laid out with `no_label` is without labels
pub unlabelled : (k n : ℕ) → n ≤ k → Unlabelled n (replicate k no_label)
unlabelled k n h i l = get_or-replicate k i no_label 0 (omega arith)
