-- The steps of one place, by its mark, its label and its partners.
use mathlib.Core.Path.{◌≡◌, refl}
use mathlib.Core.Logic.{inl, inr, ⊎_elim, ◌↔◌, ◌≢◌}
use mathlib.Core.List.{List}
use mathlib.Core.Bool.{Bool, true}
use Prim.Native.Nat.{ℕ, zero, suc, ◌<◌}
use native.Mathlib.Omega.{arith}
use lib.ListN.{length, get_or, replicate}
use Rattle.std.specs.Prelude.{Option, Some, None}
use Rattle.ccsk.specs.Term.{Term, Label, Node}
use Rattle.operations.specs.Order.{FreeStep}
use Rattle.offers.specs.Offers.{Offers, Joins, Wanted, At}
use Rattle.labelset.specs.declared.Labels.{Labels}
use Rattle.index.specs.declared.Rows.{Rows}
use Rattle.index.specs.Whole.{PartAt}
use Rattle.showing.specs.declared.Places.{Places}
use Rattle.offers.proofs.Parts.{offers_under, offers_low, joins_under}
use Rattle.offers.proofs.Steps.{free_alone, free_joined}
use Rattle.index.proofs.Answers.{rows_part}
use Rattle.wanted.specs.Kept.{Covers}
use Rattle.partners.specs.Met.{Meets}
use Rattle.search.specs.First.{Ready}

-- the whole term is the part that begins at node 0
pub at_zero : (P : Node → Type 0) (i : Node) → At 0 P i ↔ P i
at_zero P i = (λ w. let e : w.0 ≡ i = omega (arith, w.1) in rw e at w.2, λ w. (i, omega arith, w))

-- a row of no length notes nothing
pub covers_none : {R : Rows} {K : List Labels} → length K ≡ 0 → Covers R K
covers_none e = record { at = λ i t l P h. absurd (omega arith) }

module _ {t : Term} {R : Rows} {M : List ℕ} (Y : Ready t R M) where
  pub whole : PartAt R 0 t
  whole = rows_part Y.rows

  -- a place with a step is marked, and is a node
  step_wanted : (i j : Node) (l : Label) → FreeStep t i j l → Wanted (λ l. l < 256) t i
  step_wanted i zero l w = let o = (free_alone t i l).0 w in inl (l, offers_low Y.rows.fits.range o, o)
  step_wanted i (suc j) l w = inr (suc j, ((free_joined t i (suc j) l (omega arith)).0 w).1)

  pub unmarked : (i : Node) → get_or M i 0 ≢ 1 → (j : Node) (l : Label) → ¬ FreeStep t i j l
  unmarked i f j l w = f ((Y.marked i).1 (step_wanted i j l w))

  pub step_low : (i j : Node) (l : Label) → FreeStep t i j l → i < length M
  step_low i j l w = ⊎_elim (λ z. omega (arith, offers_under z.2, Y.rows.count)) (λ z. omega (arith, joins_under z.1, Y.rows.count)) (step_wanted i j l w)

  -- what the place i meets
  module _ {i : Node} {b : Bool} {K : List Labels} {L L' : Places} {r : Option Label} (m : Meets R K 0 i b L L' r) where
    shows : (l : Label) → Offers t i l ↔ (r ≡ Some l)
    shows l = let w = m.label t whole l in (λ o. w.0 ((at_zero (λ p. Offers t p l) i).1 o), λ z. (at_zero (λ p. Offers t p l) i).0 (w.1 z))

    pub alone_found : {a : Label} → r ≡ Some a → FreeStep t i 0 a
    alone_found {a} h = (free_alone t i a).1 ((shows a).1 h)

    pub mute : r ≡ None → (l : Label) → ¬ FreeStep t i 0 l
    mute e l w = let o : r ≡ Some l = (shows l).0 ((free_alone t i l).0 w) in cc

    -- all its partners are listed, in rising order
    module _ (e : b ≡ true) (c : Covers R K) (z : L.count ≡ 0) where
      mate_joins : (k : ℕ) → k < L'.count → Joins t i (get_or L'.row k 0)
      mate_joins k h = (at_zero (Joins t i) (get_or L'.row k 0)).0 ((at_zero (λ p. At 0 (Joins t p) (get_or L'.row k 0)) i).0 ((m.mates e c t whole).each k (omega arith) h))

      pub mate_step : (k : ℕ) → k < L'.count → FreeStep t i (get_or L'.row k 0) 0
      mate_step k h = let j = mate_joins k h in (free_joined t i (get_or L'.row k 0) 0 (omega (arith, joins_under j))).1 (refl, j)

      -- a step of i at j, where it does not step alone, is a partner
      pub step_mate : (j : Node) (l : Label) → 0 < j → FreeStep t i j l → (k : ℕ) × (k < L'.count) × (get_or L'.row k 0 ≡ j)
      step_mate j l h w = let z = (m.mates e c t whole).all j ((at_zero (λ p. At 0 (Joins t p) j) i).1 ((at_zero (Joins t i) j).1 ((free_joined t i j l h).0 w).1)) in (z.0, z.2, z.3)

      pub mates_rise : (j k : ℕ) → j < k → k < L'.count → get_or L'.row j 0 < get_or L'.row k 0
      mates_rise j k h g = (m.mates e c t whole).rising j k (omega arith) h g

-- a row of zeros has no mark
pub no_marks : (m k : ℕ) → ◌≡◌ {A = ℕ} (get_or (replicate m 0) k 0) 0
no_marks zero k = refl
no_marks (suc m) zero = refl
no_marks (suc m) (suc k) = no_marks m k
