-- `undo_listing` meets its contract: what the pass notes are the keys and the lasts of the record's term.
use Rattle.std.proofs.lemmas.Result.{err_from_is_err_and}
use native.Mathlib.Omega.{arith}
use Rattle.reader.proofs.Whole.{slice_bytes}
use Rattle.undos.proofs.Whole.{listing_refused, listing_trailing, counts_within, keys_small, keys_positive, keys_among, listing_done}
use Rattle.undos.proofs.listing.undo_listing.Goals as goal

pub returns-in_err-part : goal.returns-in_err-part
returns-in_err-part c = let p = err_from_is_err_and c.from_residual.result c.from_residual.ensures.1 in
    rw (p.1, p.2) (listing_refused c.args.bytes.now c.args.row.now _ c.in_err-part.ensures)

pub returns-then-part-bytes : goal.returns-then-part-bytes
returns-then-part-bytes c = listing_trailing c.args.bytes.now (slice_bytes c.args.bytes.now (λ i. omega (arith, c.type_inv.bytes i))) _ _ c.new-notes.ensures _ c.in_ok-part.ensures c.args.row.now c.if-part-bytes.true

pub list-requires-clause-keys : goal.list-requires-clause-keys
list-requires-clause-keys c = let b = slice_bytes c.args.bytes.now (λ i. omega (arith, c.type_inv.bytes i)) in
    ((counts_within c.args.bytes.now b _ _ c.new-notes.ensures _ c.in_ok-part.ensures c.args.row.now).0, keys_small c.args.bytes.now b _ _ c.new-notes.ensures _ c.in_ok-part.ensures c.args.row.now c.if-part-bytes.false, keys_positive c.args.bytes.now b _ _ c.new-notes.ensures _ c.in_ok-part.ensures c.args.row.now c.if-part-bytes.false)

pub list-requires-clause-lasts : goal.list-requires-clause-lasts
list-requires-clause-lasts c = let b = slice_bytes c.args.bytes.now (λ i. omega (arith, c.type_inv.bytes i)) in
    ((counts_within c.args.bytes.now b _ _ c.new-notes.ensures _ c.in_ok-part.ensures c.args.row.now).1, keys_among c.args.bytes.now b _ _ c.new-notes.ensures _ c.in_ok-part.ensures c.args.row.now c.if-part-bytes.false)

pub returns : goal.returns
returns c = listing_done c.args.bytes.now (slice_bytes c.args.bytes.now (λ i. omega (arith, c.type_inv.bytes i))) _ _ c.new-notes.ensures _ c.in_ok-part.ensures c.args.row.now c.if-part-bytes.false _ _ _ c.list.ensures
