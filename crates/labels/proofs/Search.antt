-- A key's place in an ascending row, and the label that stands there.
use mathlib.Core.Path.{◌≡◌}
use mathlib.Core.List.{List}
use mathlib.Core.Bool.{cond}
use Prim.Native.Nat.{ℕ, ◌<◌, ◌≤◌}
use native.Mathlib.Decide.{ℕ_discrete, dec_lt}
use native.Mathlib.Omega.{arith}
use borrow.Author.Tests.{eq-eqb, ne_eqb}
use lib.Dec.{eqb}
use lib.ListN.{length, get_or, set}
use lib.Seq.{get_or-set_same, get_or-set_other}
use Rattle.ccsk.specs.Term.{Label, Key}
use Rattle.labels.specs.Labels.{joined, Rising, Noted}

module _ (row : List ℕ) (R : Rising row) where
  -- an earlier number is no greater
  pub ascends : (i j : ℕ) → i ≤ j → j < length row → get_or row i 0 ≤ get_or row j 0
  ascends i j h l = pick (ℕ_discrete i j)
    where
      pick : Dec (i ≡ j) → get_or row i 0 ≤ get_or row j 0
      pick (yes e) = rw e (omega arith)
      pick (no e) = omega (arith, R.ascend i j (omega arith) l)

  module _ (k : Key) (a : Label) (ls : List Label) (r : ℕ) where
    -- the key does not stand in the row, as all numbers before the place r are below it and all others above
    pub noted_none : ((i : ℕ) → i < r → get_or row i 0 < k) → ((i : ℕ) → r ≤ i → i < length row → k < get_or row i 0) → Noted row k a ls ls
    noted_none f g i l = rw (ne_eqb (get_or row i 0) k (other (dec_lt i r)))
      where
        other : Dec (i < r) → get_or row i 0 ≡ k → ⊥
        other (yes h) e = omega (arith, f i h)
        other (no h) e = omega (arith, g i (omega arith) l)

    -- the key stands at the place r
    pub noted_one : r < length row → get_or row r 0 ≡ k → r < length ls → (l : Label) → l ≡ joined (get_or ls r 0) a → Noted row k a ls (set ls r l)
    noted_one h e w l q i z = pick (ℕ_discrete i r)
      where
        apart : (i ≡ r → ⊥) → Dec (i < r) → get_or row i 0 ≡ k → ⊥
        apart d (yes g) f = omega (arith, R.ascend i r g h)
        apart d (no g) f = omega (arith, R.ascend r i (omega arith) z)

        pick : Dec (i ≡ r) → get_or (set ls r l) i 0 ≡ cond (eqb (get_or row i 0) k) (joined (get_or ls i 0) a) (get_or ls i 0)
        pick (yes d) = rw (d, get_or-set_same ls r l 0 w, eq-eqb (get_or row r 0) k e) q
        pick (no d) = rw (get_or-set_other ls r i l 0 d, ne_eqb (get_or row i 0) k (apart d (dec_lt i r)))
