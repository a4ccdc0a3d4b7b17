-- How far the search has come: every step at or after the start stands at or after the present places.
use mathlib.Core.Path.{◌≡◌, refl}
use mathlib.Core.Logic.{inl, inr, ⊎_elim, ◌≢◌}
use mathlib.Core.List.{List}
use mathlib.Core.Bool.{true}
use Prim.Native.Nat.{ℕ, zero, suc, ◌+◌, ◌<◌, ◌≤◌}
use native.Mathlib.Decide.{ℕ_discrete, dec_lt}
use native.Mathlib.Omega.{arith}
use Rattle.std.proofs.lemmas.List.{get_or-take}
use lib.ListN.{get_or, take}
use Rattle.ccsk.specs.Term.{Term, Label, Node}
use Rattle.operations.specs.Order.{AtOrAfter, FreeStep, NoFreeStep, FirstFrom}
use Rattle.wanted.specs.Kept.{Covers}
use Rattle.std.specs.Prelude.{Option, length}
use Rattle.labelset.specs.declared.Labels.{Labels}
use Rattle.index.specs.declared.Rows.{Rows}
use Rattle.showing.specs.declared.Places.{Places}
use Rattle.partners.specs.Met.{Meets}
use Rattle.search.specs.First.{Ready}
use Rattle.search.proofs.Places.{unmarked, step_low, mate_step, step_mate, mates_rise}

-- no step at or after (p, q) stands before (i, j)
pub record Reached (t : Term) (p q i j : Node) : Type 0 where
  pub after : AtOrAfter p q i j
  pub least : (i' j' : Node) (l : Label) → AtOrAfter p q i' j' → FreeStep t i' j' l → AtOrAfter i j i' j'

pub reached_start : (t : Term) (p q : Node) → Reached t p q p q
reached_start t p q = record { after = inr (refl, omega arith); least = λ i' j' l h w. h }

module _ {t : Term} {p q i j : Node} (r : Reached t p q i j) where
  -- no step of i is left
  reached_on : ((j' : Node) (l : Label) → j ≤ j' → ¬ FreeStep t i j' l) → Reached t p q (i + 1) 0
  reached_on f = record { after = inl (⊎_elim (λ h. omega arith) (λ h. omega arith) r.after); least = λ i' j' l h w. next i' j' l w (r.least i' j' l h w) (ℕ_discrete (i + 1) i') }
    where
      next : (i' j' : Node) (l : Label) → FreeStep t i' j' l → AtOrAfter i j i' j' → Dec (i + 1 ≡ i') → AtOrAfter (i + 1) 0 i' j'
      next i' j' l w (inl g) (yes e) = inr (e, omega arith)
      next i' j' l w (inl g) (no e) = inl (omega arith)
      next i' j' l w (inr g) d = absurd (f j' l g.1 (rw (← g.0) at w))

  -- no step of i stands before (i, k)
  reached_to : (k : Node) → j ≤ k → ((j' : Node) (l : Label) → j ≤ j' → FreeStep t i j' l → k ≤ j') → Reached t p q i k
  reached_to k h f = record {
    after = ⊎_elim inl (λ g. inr (g.0, omega arith)) r.after;
    least = λ i' j' l o w. ⊎_elim inl (λ g. inr (g.0, f j' l g.1 (rw (← g.0) at w))) (r.least i' j' l o w);
  }

  pub reached_found : {l : Label} → FreeStep t i j l → FirstFrom t p q i j l
  reached_found w = record { step = w; after = r.after; least = r.least }

module _ {t : Term} {R : Rows} {M : List ℕ} (Y : Ready t R M) {p q i from : Node} (r : Reached t p q i from) where
  pub reached_skip : get_or M i 0 ≢ 1 → Reached t p q (i + 1) 0
  reached_skip f = reached_on r (λ j l h. unmarked Y i f j l)

  pub reached_none : length M ≤ i → NoFreeStep t p q
  reached_none h i' j' l o w = ⊎_elim (λ g. omega (arith, step_low Y i' j' l w)) (λ g. omega (arith, step_low Y i' j' l w)) (r.least i' j' l o w)

  -- the place i does not step alone from here on, and its partners are listed
  module _ {K : List Labels} {L L' : Places} {m : Option Label} {S : List ℕ} (f : from ≡ 0 → (l : Label) → ¬ FreeStep t i 0 l) (w : Meets R K 0 i true L L' m) (c : Covers R K) (e : L.count ≡ 0) (u : S ≡ take L'.count L'.row) where
    listed : (k : ℕ) → k < L'.count → get_or S k 0 ≡ get_or L'.row k 0
    listed k h = rw u (get_or-take L'.count L'.row k 0 h)

    -- all of them stand before `from`
    pub reached_past : ((k : ℕ) → k < L'.count → get_or S k 0 < from) → Reached t p q (i + 1) 0
    reached_past z = reached_on r none
      where
        none : (j : Node) (l : Label) → from ≤ j → ¬ FreeStep t i j l
        none zero l h s = f (omega arith) l s
        none (suc j) l h s = let y = step_mate Y w refl c e (suc j) l (omega arith) s in omega (arith, z y.0 y.1, listed y.0 y.1, y.2)

    -- the first that does not is the next step
    module _ (k : ℕ) (h : k < L'.count) (g : from ≤ get_or S k 0) (z : (x : ℕ) → x < k → get_or S x 0 < from) where
      reached_mate : Reached t p q i (get_or S k 0)
      reached_mate = reached_to r (get_or S k 0) g first
        where
          first : (j : Node) (l : Label) → from ≤ j → FreeStep t i j l → get_or S k 0 ≤ j
          first zero l o s = absurd (f (omega arith) l s)
          first (suc j) l o s = let y = step_mate Y w refl c e (suc j) l (omega arith) s in pick y.0 y.1 y.2 (dec_lt y.0 k) (ℕ_discrete y.0 k)
            where
              pick : (x : ℕ) → x < L'.count → get_or L'.row x 0 ≡ suc j → Dec (x < k) → Dec (x ≡ k) → get_or S k 0 ≤ suc j
              pick x u v (yes d) q = absurd (omega (arith, z x d, listed x u))
              pick x u v (no d) (yes q) = rw (← q) (omega (arith, v, listed x u))
              pick x u v (no d) (no q) = omega (arith, mates_rise Y w refl c e k x (omega arith) u, v, listed k h)

      pub mate_found : FirstFrom t p q i (get_or S k 0) 0
      mate_found = reached_found reached_mate (rw (listed k h) (mate_step Y w refl c e k h))
