-- `put_undos` is safe: the keys that the listing left in the row ascend, so that their labels can be asked for.
use mathlib.Core.Path.{◌≡◌, refl, ◌∙◌}
use mathlib.Core.List.{List}
use Prim.Native.Nat.{ℕ, ◌<◌, ◌≤◌}
use native.Mathlib.Omega.{arith}
use lib.ListN.{length, get_or, take, replicate, length-replicate, length-take}
use Rattle.format.specs.Limits.{node_limit}
use Rattle.keys.specs.Gather.{Readable}
use Rattle.operations.specs.Ask.{UndoListing}
use Rattle.reader.proofs.Whole.{slice_bytes}
use Rattle.labels.specs.Labels.{Rising}
use Rattle.labels.proofs.Listed.{listing_rising, unlabelled}
use Rattle.listing.proofs.lines.put_undos.Goals as goal

-- of the row that was filled, the first n numbers ascend
listed : {s row' : List ℕ} {n : ℕ} → ((i : ℕ) → get_or s i 0 < 256) → UndoListing s (replicate 4096 0) 0 n row'
    → Readable s × Rising (take n row') × (n ≤ 4096) × (length row' ≡ 4096)
listed f u = let w = listing_rising (slice_bytes _ f) refl u in (w.0, w.1, rw (length-replicate {A = ℕ} 4096 0) at w.2, w.3 ∙ length-replicate {A = ℕ} 4096 0)

few : (n : ℕ) (row' : List ℕ) → n ≤ 4096 → length (take n row') ≤ 4096
few n row' h = omega (arith, length-take n row')

pub slice_bounds-keys-end : goal.slice_bounds-keys-end
slice_bounds-keys-end c = let w = listed (λ i. omega (arith, c.type_inv.bytes i)) c.in-Ok.ensures in omega (arith, w.2, w.3)

pub slice_bounds-row-end : goal.slice_bounds-row-end
slice_bounds-row-end c = let w = listed (λ i. omega (arith, c.type_inv.bytes i)) c.in-Ok.ensures in omega (arith, w.2, w.3, length-take c.in-Ok.count c.undo_listing.new.row)

pub undo_labels-requires-clause-readable : goal.undo_labels-requires-clause-readable
undo_labels-requires-clause-readable c = (listed (λ i. omega (arith, c.type_inv.bytes i)) c.in-Ok.ensures).0

pub undo_labels-requires-clause-rising : goal.undo_labels-requires-clause-rising
undo_labels-requires-clause-rising c = let w = listed (λ i. omega (arith, c.type_inv.bytes i)) c.in-Ok.ensures in
    (w.1, few _ _ w.2, unlabelled node_limit _ (few _ _ w.2))
