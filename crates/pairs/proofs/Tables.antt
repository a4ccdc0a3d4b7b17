-- The entries of a key are those in the rows that hold it, so what the index says of rows is what the conditions say of entries.
use mathlib.Core.Path.{◌≡◌, refl, ap, ◌∙◌}
use mathlib.Core.Logic.{inl, inr, ◌↔◌, ◌≢◌}
use mathlib.Core.List.{List, [], ◌∷◌, ◌++◌}
use mathlib.Core.Bool.{Bool, true, false}
use Prim.Native.Nat.{ℕ, zero, suc, ◌+◌, ◌≤◌, ◌<◌}
use native.Mathlib.Decide.{dec_lt}
use native.Mathlib.Omega.{arith}
use borrow.Author.Tests.{ne_eqb}
use lib.Dec.{eqb}
use lib.ListN.{length, get_or}
use Rattle.ccsk.specs.Numbers.{In}
use Rattle.ccsk.specs.Term.{tick}
use Rattle.causes.specs.Entry.{Entry, keep, only}
use Rattle.causes.specs.Tests.{EachKey, AtMostTwo, Complements, Beside, Enclosed}
use Rattle.causes.specs.Links.{renamed}
use Rattle.causes.proofs.Renaming.{Blind, two_blind, complements_blind, beside_blind, enclosed_blind}
use Rattle.causes.specs.Columns.{Below, Positive, Square}
use Rattle.std.specs.Prelude.{Option, Some, None}
use Rattle.pairs.specs.declared.Condition.{Condition}
use Rattle.pairs.specs.declared.Condition.TheVariants.{Complementary, Apart, Hidden}
use Rattle.pairs.specs.Rows.{table, rows_of, row, Indexed}
use Rattle.pairs.specs.Cause.{Lowest, spots, of, EachBelow, CauseBelow, Placed, EachPlaced}

-- a column is what another is from place i on
abbrev From : ℕ → List ℕ → List ℕ → Type 0
From i l l₀ = (j : ℕ) → get_or l j 0 ≡ get_or l₀ (i + j) 0

from_next : (i x : ℕ) (l l₀ : List ℕ) → From i (x ∷ l) l₀ → From (suc i) l l₀
from_next i x l l₀ f j = f (suc j) ∙ ap (λ (k : ℕ). get_or l₀ k 0) (shift i j)
  where
    shift : (i j : ℕ) → i + suc j ≡ suc i + j
    shift i j = omega arith

from_here : (i x : ℕ) (l l₀ : List ℕ) → From i (x ∷ l) l₀ → x ≡ get_or l₀ i 0
from_here i x l l₀ f = f 0 ∙ ap (λ (k : ℕ). get_or l₀ k 0) (last i)
  where
    last : (i : ℕ) → i + 0 ≡ i
    last i = omega arith

-- the entries of m, without their keys, are those in its rows
spots_only : (m i : ℕ) (ks acs es ss us acs₀ es₀ ss₀ : List ℕ) → Square ks acs es ss us → From i acs acs₀ → From i es es₀ → From i ss ss₀ → renamed (λ x. 0) (only m (table i ks acs es ss us)) ≡ spots acs₀ es₀ ss₀ (rows_of m i ks)
unfolding table rows_of only renamed spots
spots_only m i [] acs es ss us acs₀ es₀ ss₀ q f g h = refl
spots_only m i (k ∷ ks) [] es ss us acs₀ es₀ ss₀ q f g h = absurd (let z = q.actions in omega arith)
spots_only m i (k ∷ ks) (a ∷ acs) [] ss us acs₀ es₀ ss₀ q f g h = absurd (let z = q.ends in omega arith)
spots_only m i (k ∷ ks) (a ∷ acs) (e ∷ es) [] us acs₀ es₀ ss₀ q f g h = absurd (let z = q.scopes in omega arith)
spots_only m i (k ∷ ks) (a ∷ acs) (e ∷ es) (s ∷ ss) [] acs₀ es₀ ss₀ q f g h = absurd (let z = q.ups in omega arith)
spots_only m i (k ∷ ks) (a ∷ acs) (e ∷ es) (s ∷ ss) (u ∷ us) acs₀ es₀ ss₀ q f g h = pick (eqb m k) (spots_only m (suc i) ks acs es ss us acs₀ es₀ ss₀ (record { actions = let z = q.actions in omega arith; ends = let z = q.ends in omega arith; scopes = let z = q.scopes in omega arith; ups = let z = q.ups in omega arith }) (from_next i a acs acs₀ f) (from_next i e es es₀ g) (from_next i s ss ss₀ h))
  where
    pick : (b : Bool) → renamed (λ x. 0) (only m (table (suc i) ks acs es ss us)) ≡ spots acs₀ es₀ ss₀ (rows_of m (suc i) ks)
        → renamed (λ x. 0) (keep b (record { key = k; action = a; row = i; end = e; scope = s; up = u }) (only m (table (suc i) ks acs es ss us))) ≡ spots acs₀ es₀ ss₀ (tick b i (rows_of m (suc i) ks))
    pick true z = rw (z, ← from_here i a acs acs₀ f, ← from_here i e es es₀ g, ← from_here i s ss ss₀ h)
    pick false z = z

pub only_spots : (m : ℕ) (ks acs es ss us : List ℕ) → Square ks acs es ss us → renamed (λ x. 0) (only m (table 0 ks acs es ss us)) ≡ spots acs es ss (rows_of m 0 ks)
only_spots m ks acs es ss us q = spots_only m 0 ks acs es ss us acs es ss q (λ j. at acs j) (λ j. at es j) (λ j. at ss j)
  where
    at : (l : List ℕ) (j : ℕ) → get_or l j 0 ≡ get_or l (0 + j) 0
    at l j = ap (λ (k : ℕ). get_or l k 0) (let z : j ≡ 0 + j = omega arith in z)

-- a number that is no key has no row
pub rows_none : (m i : ℕ) (ks : List ℕ) → ((j : ℕ) → j < length ks → m ≢ get_or ks j 0) → rows_of m i ks ≡ []
unfolding rows_of
rows_none m i [] f = refl
rows_none m i (k ∷ ks) f = rw (ne_eqb m k (f 0 (omega arith))) (rows_none m (suc i) ks (λ j h. f (suc j) (omega arith)))

pub spots-length : (acs es ss l : List ℕ) → length (spots acs es ss l) ≡ length l
unfolding spots
spots-length acs es ss [] = refl
spots-length acs es ss (r ∷ l) = ap suc (spots-length acs es ss l)

module _ (ks acs es ss us first second : List ℕ) (q : Square ks acs es ss us) (b : Below (length first) ks) (p : Positive ks) where
  abbrev l : List Entry
  l = table 0 ks acs es ss us

  -- a test that does not look at keys asks the same of the entries of m as of its rows
  at_rows : (P : List Entry → Type 0) → Blind P → (m : ℕ) → P (only m l) ↔ P (spots acs es ss (rows_of m 0 ks))
  at_rows P w m = rw (only_spots m ks acs es ss us q) at (w.same (λ x. 0) (only m l))

  nothing : (P : List Entry → Type 0) → Blind P → (m : ℕ) → ((j : ℕ) → j < length ks → m ≢ get_or ks j 0) → P (spots acs es ss (rows_of m 0 ks))
  unfolding spots
  nothing P w m f = rw (rows_none m 0 ks f) w.empty

  -- so the index says as much of all keys
  pub each_rows : (P : List Entry → Type 0) → Blind P → Indexed ks first second → EachKey P l ↔ EachBelow (length first) P acs es ss first second
  each_rows P w x = (to, back)
    where
      to : EachKey P l → EachBelow (length first) P acs es ss first second
      to f zero h = rw (← x.rows 0 h) (nothing P w 0 (λ j i e. let z = p j i in omega arith))
      to f (suc k) h = rw (← x.rows (suc k) h) ((at_rows P w (suc k)).0 (f (suc k) (omega arith)))

      back : EachBelow (length first) P acs es ss first second → EachKey P l
      back f m h = pick (dec_lt m (length first))
        where
          pick : Dec (m < length first) → P (only m l)
          pick (yes i) = (at_rows P w m).1 (rw (x.rows m i) (f m i))
          pick (no i) = (at_rows P w m).1 (nothing P w m (λ j k e. let z = b j k in i (omega arith)))

  -- an index has at most two rows for a key
  pub two_rows : Indexed ks first second → EachKey AtMostTwo l
  two_rows x = (each_rows AtMostTwo two_blind x).1 (λ k h. let y = spots-length acs es ss (of first second k) in let z = short (get_or first k 0) (get_or second k 0) in omega arith)
    where
      short : (a b : ℕ) → length (row a ++ row b) ≤ 2
      short zero zero = omega arith
      short zero (suc b) = omega arith
      short (suc a) zero = omega arith
      short (suc a) (suc b) = omega arith

  -- three rows are too many
  pub three_rows : (k : ℕ) → 2 < length (rows_of k 0 ks) → ¬ EachKey AtMostTwo l
  three_rows zero h f = let e = ap length (rows_none 0 0 ks (λ j i e. let z = p j i in omega arith)) in omega arith
  three_rows (suc k) h f = let z = (at_rows AtMostTwo two_blind (suc k)).0 (f (suc k) (omega arith)) in let y = spots-length acs es ss (rows_of (suc k) 0 ks) in omega arith

  -- the answer on rows is the answer on entries
  pub lowest_rows : Indexed ks first second → (c : Option Condition) → CauseBelow (length first) acs es ss first second c → Lowest (EachKey Complements l) (EachKey Beside l) (EachKey Enclosed l) c
  lowest_rows x c r = pick c r
    where
      four : EachKey Complements l ↔ EachBelow (length first) Complements acs es ss first second
      four = each_rows Complements complements_blind x

      five : EachKey Beside l ↔ EachBelow (length first) Beside acs es ss first second
      five = each_rows Beside beside_blind x

      six : EachKey Enclosed l ↔ EachBelow (length first) Enclosed acs es ss first second
      six = each_rows Enclosed enclosed_blind x

      pick : (c : Option Condition) → CauseBelow (length first) acs es ss first second c → Lowest (EachKey Complements l) (EachKey Beside l) (EachKey Enclosed l) c
      pick None r = (four.1 r.0, five.1 r.1, six.1 r.2)
      pick (Some Complementary) r = λ f. r (four.0 f)
      pick (Some Apart) r = (four.1 r.0, λ f. r.1 (five.0 f))
      pick (Some Hidden) r = (four.1 r.0, five.1 r.1, λ f. r.2 (six.0 f))
      pick (Some _) r = absurd r

-- the rows of an index lie in the columns
rows_below : (m i : ℕ) (ks : List ℕ) (r : ℕ) → In r (rows_of m i ks) → r < i + length ks
unfolding rows_of
rows_below m i [] r z = absurd z
rows_below m i (k ∷ ks) r z = pick (eqb m k) z (rows_below m (suc i) ks r)
  where
    pick : (b : Bool) → In r (tick b i (rows_of m (suc i) ks)) → (In r (rows_of m (suc i) ks) → r < suc i + length ks) → r < i + suc (length ks)
    pick true (inl e) f = omega arith
    pick true (inr y) f = let x = f y in omega arith
    pick false y f = let x = f y in omega arith

pub each_placed : (ks first second : List ℕ) → Indexed ks first second → EachPlaced (length ks) first second
each_placed ks first second x = record { alike = x.alike; placed = λ k h. both k h (get_or first k 0) (get_or second k 0) refl refl }
  where
    inside : (k : ℕ) → k < length first → (r : ℕ) → In r (row (get_or first k 0) ++ row (get_or second k 0)) → r < length ks
    inside k h r i = let z = rows_below k 0 ks r (rw (x.rows k h) i) in omega arith

    both : (k : ℕ) → k < length first → (a b : ℕ) → get_or first k 0 ≡ a → get_or second k 0 ≡ b → Placed (length ks) (get_or first k 0) (get_or second k 0)
    both k h zero b e f = (omega arith, let z = x.order k h e in omega arith, λ w. x.order k h w)
    both k h (suc a) zero e f = (let z = inside k h a (rw e (inl refl)) in omega arith, omega arith, λ w. absurd (omega arith))
    both k h (suc a) (suc b) e f = (let z = inside k h a (rw e (inl refl)) in omega arith, let z = inside k h b (rw (e, f) (inr (inl refl))) in omega arith, λ w. absurd (omega arith))
