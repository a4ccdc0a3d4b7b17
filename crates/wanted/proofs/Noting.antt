-- The row of what parts show.
use mathlib.Core.Path.{◌≡◌}
use mathlib.Core.List.{List}
use Prim.Native.Nat.{ℕ, ◌+◌, ◌<◌}
use native.Mathlib.Decide.{ℕ_discrete}
use native.Mathlib.Omega.{arith}
use lib.ListN.{length, replicate, length-replicate, get_or-replicate}
use Rattle.ccsk.specs.Term.{Term, Label, Node}
use Rattle.labelset.specs.declared.Labels.{Labels}
use Rattle.labelset.specs.Set.{Shows, Exactly}
use Rattle.offers.specs.Offers.{Shown, Showing}
use Rattle.offers.proofs.Parts.{offers_low}
use Rattle.index.specs.declared.Rows.{Rows}
use Rattle.index.specs.Whole.{PartAt}
use Rattle.wanted.specs.Kept.{shown_at, Noted, Covers, NoneShown}

-- what is noted stays complete if what is noted for node n is what the part there shows
module _ {R : Rows} {K K' : List Labels} {n : Node} {s : Labels} (k : Noted n s K K') (f : (t : Term) → PartAt R n t → Exactly s (Shown t)) (c : Covers R K) where
  pub covers_more : Covers R K'
  covers_more = record { at = λ i t l P h w. pick i t l P h w (ℕ_discrete i n) }
    where
      pick : (i : Node) (t : Term) (l : Label) → PartAt R i t → i + 1 < length K' → Shown t l → Dec (i ≡ n) → Shows (shown_at K' (i + 1)) l
      pick i t l P h w (yes e) = rw (e, k.here (rw (← e) (omega (arith, k.long)))) (((f t (rw e at P)).at l).1 w)
      pick i t l P h w (no e) = rw (k.there i e) (c.at i t l P (omega (arith, k.long)) w)

-- a part whose noted labels are apart from W has no place that shows one of W
pub none_shown : {R : Rows} {K : List Labels} {n : Node} {t : Term} (want : Labels) → Covers R K → PartAt R n t → NoneShown K n want → (q : Node) → ¬ Showing (Shows want) t q
none_shown {n = n} {t = t} want c P (h, a) q (l, w, o) = a l (c.at n t l P h (q, o), w)

-- a row of full sets misses nothing
pub covers_full : {R : Rows} {all : Labels} (m : ℕ) → Exactly all (λ l. l < 256) → Covers R (replicate m all)
covers_full {all = all} m e = record {
  at = λ i t l P h w. let f : i + 1 < m = rw (length-replicate {A = Labels} m all) at h in
      rw (get_or-replicate m (i + 1) all (record { a = 0; b = 0; c = 0; d = 0 }) f) ((e.at l).1 (offers_low P.range w.1));
}
