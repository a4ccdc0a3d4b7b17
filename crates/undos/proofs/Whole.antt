-- The whole record: what was noted are the keys and the lasts of its term, so the keys that are ready are those that can be undone.
use mathlib.Core.Path.{◌≡◌, refl}
use mathlib.Core.Logic.{inl, inr}
use mathlib.Core.List.{List, [], ◌∷◌, ◌++◌}
use mathlib.Core.Bool.{Bool, true, false}
use Prim.Native.Nat.{ℕ, zero, suc, ◌+◌, ◌<◌, ◌≤◌}
use native.Mathlib.Omega.{arith}
use borrow.Author.Tests.{ne_eqb}
use lib.Dec.{eqb}
use lib.ListN.{length, length-append}
use Rattle.std.specs.Prelude.{Ok}
use Rattle.ccsk.specs.Numbers.{In, Lists}
use Rattle.ccsk.specs.Term.{Term, Key, Node, nil, pre, cho, par, res, keys, done, labels, tick, size}
use Rattle.ccsk.specs.Step.{Undoable}
use Rattle.ccsk.proofs.Lists.{in_left, in_right}
use Rattle.ccsk.proofs.Keys.{in_has, keys_few}
use Rattle.format.specs.Limits.{node_limit, depth_limit}
use Rattle.format.specs.Read.{Reads}
use Rattle.format.specs.Encode.{InRange, Bytes}
use Rattle.operations.specs.Ask.{UndoListing, UndoListing.unreadable as refused-row, UndoListing.done as listed-row}
use Rattle.operations.proofs.Kept.{range_key}
use Rattle.operations.proofs.Readable.{read_fits}
use Rattle.reader.specs.Walk.{Stops}
use Rattle.reader.proofs.Whole.{refuses_stopped, refuses_trailing, reads_whole}
use Rattle.moves.specs.Move.{holds}
use Rattle.rank.specs.Rank.{one_more}
use Rattle.lasts.specs.declared.Last.{Last}
use Rattle.lasts.specs.Last.{Scopes, enclosed, open_scopes, last_over_prefix, last_over_choice, lasts, all_lasts, only, Ready}
use Rattle.lasts.proofs.Ready.{undoable_iff_ready}
use Rattle.noting.specs.declared.Notes.{Notes}
use Rattle.noting.specs.Node.{noted_keys, noted_lasts, NoNotes}
use Rattle.gather.specs.declared.Part.{Part}
use Rattle.gather.specs.Gather.{Gathers}
use Rattle.gather.proofs.Notes.{lasts_few}
use Rattle.settle.specs.Group.{Small, times}
use Rattle.undos.specs.Rows.{Positive, AllAmong, Lines, Lines.lines}

-- a key stands as often as it marks actions
times-append : (k : Key) (x y : List Key) → times k (x ++ y) ≡ times k x + times k y
unfolding times
times-append k [] y = omega arith
times-append k (a ∷ x) y = rw (times-append k x y) (pull (eqb k a))
  where
    pull : (b : Bool) → one_more b (times k x + times k y) ≡ one_more b (times k x) + times k y
    pull true = omega arith
    pull false = refl

times_labels : (k : Key) → 0 < k → (t : Term) → times k (keys t) ≡ length (labels k t)
unfolding times keys labels
times_labels k h nil = refl
times_labels k h (pre a zero t) = rw (ne_eqb k 0 (λ e. omega arith)) (times_labels k h t)
times_labels k h (pre a (suc m) t) = rw (times_labels k h t) (one (eqb k (suc m)))
  where
    one : (b : Bool) → one_more b (length (labels k t)) ≡ length (tick b a (labels k t))
    one true = refl
    one false = refl
times_labels k h (cho t u) = rw (times-append k (keys t) (keys u), times_labels k h t, times_labels k h u, length-append (labels k t) (labels k u))
times_labels k h (par t u) = rw (times-append k (keys t) (keys u), times_labels k h t, times_labels k h u, length-append (labels k t) (labels k u))
times_labels k h (res a t) = times_labels k h t

-- the key of every last is a key of the term
among_more : (x y : List Key) (l : List Last) → ((k : Key) → In k x → In k y) → AllAmong x l → AllAmong y l
among_more x y [] f a = tt
among_more x y (e ∷ l) f a = (f e.key a.0, among_more x y l f a.1)

among_both : (x : List Key) (l m : List Last) → AllAmong x l → AllAmong x m → AllAmong x (l ++ m)
among_both x [] m a b = b
among_both x (e ∷ l) m a b = (a.0, among_both x l m a.1 b)

among_prefix : (k : Key) (e : Last) (h : Bool) (x : List Last) (y : List Key) → e.key ≡ k → AllAmong y x → AllAmong (done k y) (last_over_prefix (eqb k 0) h e x)
among_prefix zero e h x y q a = tt
among_prefix (suc k) e true x y q a = rw (ne_eqb (suc k) 0 (λ z. omega arith)) (among_more y (suc k ∷ y) x (λ j i. inr i) a)
among_prefix (suc k) e false x y q a = rw (ne_eqb (suc k) 0 (λ z. omega arith)) (inl q, tt)

among_choice : (f g : Bool) (x y : List Last) (v w : List Key) → AllAmong v x → AllAmong w y → AllAmong (v ++ w) (last_over_choice f g x y)
among_choice true true x y v w a b = tt
among_choice true false x y v w a b = among_both (v ++ w) x y (among_more v (v ++ w) x (λ k. in_left k v w) a) (among_more w (v ++ w) y (λ k. in_right k v w) b)
among_choice false g x y v w a b = among_both (v ++ w) x y (among_more v (v ++ w) x (λ k. in_left k v w) a) (among_more w (v ++ w) y (λ k. in_right k v w) b)

lasts_among : (n : Node) (s : Scopes) (t : Term) → AllAmong (keys t) (lasts n s t)
unfolding lasts keys
lasts_among n s nil = tt
lasts_among n s (pre a k t) = among_prefix k _ (holds t) (lasts (n + 1) s t) (keys t) refl (lasts_among (n + 1) s t)
lasts_among n s (cho t u) = among_choice (holds t) (holds u) (lasts (n + 1) s t) (lasts (n + 1 + size t) s u) (keys t) (keys u) (lasts_among (n + 1) s t) (lasts_among (n + 1 + size t) s u)
lasts_among n s (par t u) = among_choice false false (lasts (n + 1) s t) (lasts (n + 1 + size t) s u) (keys t) (keys u) (lasts_among (n + 1) s t) (lasts_among (n + 1 + size t) s u)
lasts_among n s (res a t) = lasts_among (n + 1) (enclosed a n s) t

-- the keys that are ready are those that can be undone
undoables_listed : (t : Term) (l : List Key) → InRange t → Lists (λ k. Ready (times k (keys t)) (only k (all_lasts t))) l → Lists (Undoable t) l
undoables_listed t l r f = (f.0, λ k. (to k, back k))
  where
    to : (k : Key) → In k l → (0 < k) × Undoable t k
    to k i = let h = (f.1 k).0 i in (h.0, (undoable_iff_ready k t h.0 r).1 (rw (times_labels k h.0 t) at h.1))

    back : (k : Key) → (0 < k) × Undoable t k → In k l
    back k h = (f.1 k).1 (h.0, rw (times_labels k h.0 t) ((undoable_iff_ready k t h.0 r).0 h.1))

lines_undoable : (s : List ℕ) (t : Term) (row row' : List ℕ) (r n : ℕ) → Reads s t → InRange t → Lines (keys t) (all_lasts t) row r n row' → UndoListing s row r n row'
lines_undoable s t row row' r n p i (lines {l = l} f g) = listed-row p (undoables_listed t l i f) g

-- what the pass over the whole record leaves
pub listing_refused : (s : List ℕ) (row : List ℕ) (c : ℕ) → Stops s 0 depth_limit node_limit c → UndoListing s row c 0 row
listing_refused s row c x = refused-row (refuses_stopped s c x)

module _ (s : List ℕ) (bytes : Bytes s) (b b' : Notes) (z : NoNotes b) (r : Part) (w : Gathers s 0 depth_limit node_limit b (Ok r) b') (row : List ℕ) where
  pub listing_trailing : r.next < length s → UndoListing s row 1 0 row
  listing_trailing h = refused-row (refuses_trailing s w.0 r.next r.left w.1 h)

  pub counts_within : (b'.key_count ≤ node_limit) × (b'.last_count ≤ node_limit)
  counts_within = omega (arith, z.1, z.2, w.1.nodes, w.2.key_count, w.2.last_count, keys_few w.0, lasts_few 0 b.scopes w.0)

  module _ (h : length s ≤ r.next) where
    t : Term
    t = w.0

    readable : Reads s t
    unfolding t
    readable = reads_whole s t r.next r.left w.1 h

    in_range : InRange t
    in_range = (read_fits s bytes readable).range

    all_keys : noted_keys b' ≡ keys t
    unfolding t
    all_keys = rw z.1 at w.2.more_keys

    all_last : noted_lasts b' ≡ all_lasts t
    unfolding t
    all_last = rw (z.2, z.0) at w.2.more_lasts

    pub keys_small : Small (noted_keys b')
    keys_small = rw all_keys (λ m i. omega (arith, range_key m t in_range (in_has m t i).1))

    pub keys_positive : Positive (noted_keys b')
    keys_positive = rw all_keys (λ m i. (in_has m t i).0)

    pub keys_among : AllAmong (noted_keys b') (noted_lasts b')
    keys_among = rw (all_keys, all_last) (lasts_among 0 open_scopes t)

    pub listing_done : (e n : ℕ) (row' : List ℕ) → Lines (noted_keys b') (noted_lasts b') row e n row' → UndoListing s row e n row'
    listing_done e n row' x = lines_undoable s t row row' e n readable in_range (rw (all_keys, all_last) at x)
