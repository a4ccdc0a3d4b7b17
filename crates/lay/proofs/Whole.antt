-- A whole record: it stands ready at its start, and its rows are all entries of its term.
use mathlib.Core.Path.{◌≡◌, refl, ◌∙◌, ap}
use mathlib.Core.List.{List, []}
use Prim.Native.Nat.{ℕ, zero, suc, ◌+◌, ◌≤◌, ◌<◌}
use native.Mathlib.Omega.{arith}
use lib.ListN.{length, get_or, length-append}
use Rattle.ccsk.specs.Term.{Term, Key, Node, nil, pre, cho, par, res, size}
use Rattle.format.proofs.Flat.{all_due}
use Rattle.causes.specs.Entry.{Scopes, under, open_scopes, marked, entries}
use Rattle.keys.specs.Gather.{RecordOf, Readable}
use Rattle.lay.specs.declared.Place.{Place}
use Rattle.lay.specs.declared.Sheet.{Sheet}
use Rattle.lay.specs.Lay.{Here, Ready, Lays, LaidOut}
use Rattle.lay.proofs.Scopes.{tells_open}

marked_few : (t : Term) → marked t ≤ size t
unfolding marked size
marked_few nil = omega arith
marked_few (pre a zero t) = omega (arith, marked_few t)
marked_few (pre a (suc k) t) = omega (arith, marked_few t)
marked_few (cho t u) = omega (arith, marked_few t, marked_few u)
marked_few (par t u) = omega (arith, marked_few t, marked_few u)
marked_few (res a t) = omega (arith, marked_few t)

-- an entry for each prefix that holds a key
pub entries_count : (n : Node) (i : ℕ) (up : Key) (s : Scopes) (t : Term) → length (entries n i up s t) ≡ marked t
unfolding entries marked
entries_count n i up s nil = refl
entries_count n i up s (pre a zero t) = entries_count (suc n) i up s t
entries_count n i up s (pre a (suc k) t) = ap suc (entries_count (suc n) (suc i) (suc k) s t)
entries_count n i up s (cho t u) = length-append (entries (suc n) i up s t) (entries (suc n + size t) (i + marked t) up s u) ∙ rw (entries_count (suc n) i up s t, entries_count (suc n + size t) (i + marked t) up s u)
entries_count n i up s (par t u) = length-append (entries (suc n) i up s t) (entries (suc n + size t) (i + marked t) up s u) ∙ rw (entries_count (suc n) i up s t, entries_count (suc n + size t) (i + marked t) up s u)
entries_count n i up s (res a t) = entries_count (suc n) i up (under a n s) t

here_start : (s : List ℕ) (t : Term) → RecordOf s t → Here s 0 0 0 t []
here_start s t w = record { due = all_due s t w.bytes; range = w.fits.range; few = omega (arith, w.fits.nodes); room = omega (arith, w.fits.nodes, marked_few t) }

pub ready_start : (s : List ℕ) → Readable s → Ready s 0 0 0
ready_start s (t, w) = (t, [], here_start s t w)

pub laid_out : (s : List ℕ) (x : Sheet) (r : Place) (y : Sheet) → ((k : ℕ) → k < 128 → get_or x.nearest k 0 ≡ 0) → Lays s 0 0 0 0 x r y
    → LaidOut s r.row y
laid_out s x r y z L t w = let l = L t [] open_scopes (here_start s t w) (tells_open x.nearest z) in record {
  count = omega (arith, l.row, entries_count 0 0 0 open_scopes t);
  few = omega (arith, l.row, (here_start s t w).room);
  keys = l.rows.keys;
  actions = l.rows.actions;
  ends = l.rows.ends;
  scopes = l.rows.scopes;
  ups = l.rows.ups;
}
