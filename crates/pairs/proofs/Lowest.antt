-- The lowest condition that fails: for one key by the ways through the code, and for all keys number by number.
use mathlib.Core.Path.{◌≡◌, refl, sym, ◌∙◌}
use mathlib.Core.Logic.{◌↔◌, ◌≢◌}
use mathlib.Core.List.{List}
use mathlib.Core.Bool.{Bool, true, false, true≢false}
use Prim.Native.Nat.{ℕ, zero, suc, ◌+◌, ◌-◌, ◌≤◌, ◌<◌}
use native.Mathlib.Decide.{ℕ_discrete}
use native.Mathlib.Omega.{arith}
use lib.ListN.{length, get_or}
use Rattle.std.specs.Prelude.{Option, Some, None}
use Rattle.ccsk.specs.Term.{Co}
use Rattle.causes.specs.Entry.{Entry}
use Rattle.causes.specs.Tests.{Complements, Beside, Enclosed}
use Rattle.cycles.specs.declared.Pair.{Pair}
use Rattle.cycles.specs.Pair.{firsts, seconds}
use Rattle.cycles.proofs.Pairs.{nothing, firsts-length, first_at, second_at}
use Rattle.pairs.specs.declared.Condition.{Condition}
use Rattle.pairs.specs.declared.Condition.TheVariants.{Complementary, Apart, Hidden}
use Rattle.pairs.specs.Condition.{lower}
use Rattle.pairs.specs.Cause.{Lowest, spots, of, Placed, EachPlaced, CauseAt, CauseBelow}

-- no row, one row, two rows
none : (acs es ss : List ℕ) → CauseAt acs es ss 0 0 None
unfolding spots
none acs es ss = (tt, tt, tt)

lone : (acs es ss : List ℕ) (i : ℕ) (c : Option Condition) → Lowest (Unit {0}) (Unit {0}) (get_or ss i 0 ≡ 0) c → CauseAt acs es ss (suc i) 0 c
unfolding spots
lone acs es ss i c p = p

pair : (acs es ss : List ℕ) (i j : ℕ) (c : Option Condition) → Lowest (Co (get_or acs i 0) (get_or acs j 0)) (get_or es i 0 ≤ j) (get_or ss i 0 ≡ get_or ss j 0) c → CauseAt acs es ss (suc i) (suc j) c
unfolding spots
pair acs es ss i j c p = p

pub no_rows : (acs es ss : List ℕ) (a b : ℕ) → a ≡ 0 → (a ≡ 0 → b ≡ 0) → CauseAt acs es ss a b None
no_rows acs es ss a b e f = rw (e, f e) (none acs es ss)

-- a number that is not 0, as one more than another
less_one : (a w : ℕ) → w ≡ a → a ≢ 0 → a ≡ suc (w - 1)
less_one zero w e f = absurd (f refl)
less_one (suc a) w e f = omega arith

-- w and v are a and b as indices
module _ (acs es ss : List ℕ) (a b w : ℕ) (e : w ≡ a) (p : a ≢ 0) where
  lone_at : (c : Option Condition) → b ≡ 0 → Lowest (Unit {0}) (Unit {0}) (get_or ss (w - 1) 0 ≡ 0) c → CauseAt acs es ss a b c
  lone_at c z l = rw (less_one a w e p, z) (lone acs es ss (w - 1) c l)

  pub lone_open : b ≡ 0 → get_or ss (w - 1) 0 ≡ 0 → CauseAt acs es ss a b None
  lone_open z q = lone_at None z (tt, tt, q)

  pub lone_hidden : b ≡ 0 → get_or ss (w - 1) 0 ≢ 0 → CauseAt acs es ss a b (Some Hidden)
  lone_hidden z q = lone_at (Some Hidden) z (tt, tt, q)

  module _ (v : ℕ) (f : v ≡ b) (q : b ≢ 0) (r : Bool) (t : (r ≡ true) ↔ Co (get_or acs (w - 1) 0) (get_or acs (v - 1) 0)) where
    pair_at : (c : Option Condition) → Lowest (Co (get_or acs (w - 1) 0) (get_or acs (v - 1) 0)) (get_or es (w - 1) 0 ≤ v - 1) (get_or ss (w - 1) 0 ≡ get_or ss (v - 1) 0) c → CauseAt acs es ss a b c
    pair_at c l = rw (less_one a w e p, less_one b v f q) (pair acs es ss (w - 1) (v - 1) c l)

    pub pair_differs : r ≡ false → CauseAt acs es ss a b (Some Complementary)
    pair_differs z = pair_at (Some Complementary) (λ k. true≢false (sym (t.1 k) ∙ z))

    module _ (z : r ≡ true) (x : ℕ) (g : x ≡ get_or es (w - 1) 0) where
      pub pair_nested : v - 1 < x → CauseAt acs es ss a b (Some Apart)
      pair_nested h = pair_at (Some Apart) (t.0 z, λ k. omega arith)

      pub pair_open : x ≤ v - 1 → get_or ss (w - 1) 0 ≡ get_or ss (v - 1) 0 → CauseAt acs es ss a b None
      pair_open h s = pair_at None (t.0 z, omega arith, s)

      pub pair_hidden : x ≤ v - 1 → get_or ss (w - 1) 0 ≢ get_or ss (v - 1) 0 → CauseAt acs es ss a b (Some Hidden)
      pair_hidden h s = pair_at (Some Hidden) (t.0 z, omega arith, s)

-- one number more
next_one : (A : ℕ → Type 0) (j : ℕ) → ((k : ℕ) → k < j → A k) → A j → (k : ℕ) → k < j + 1 → A k
next_one A j f a k h = pick (ℕ_discrete k j)
  where
    pick : Dec (k ≡ j) → A k
    pick (yes e) = rw e a
    pick (no e) = f k (omega arith)

abbrev Each : (ℕ → Type 0) → ℕ → Type 0
Each A j = (k : ℕ) → k < j → A k

before : (A : ℕ → Type 0) (j : ℕ) → ¬ Each A j → ¬ Each A (j + 1)
before A j f g = f (λ k h. g k (omega arith))

here : (A : ℕ → Type 0) (j : ℕ) → ¬ A j → ¬ Each A (j + 1)
here A j f g = f (g j (omega arith))

-- the lower condition is the lowest with one number more
lowest_next : (A₄ A₅ A₆ : ℕ → Type 0) (j : ℕ) (r c : Option Condition) → Lowest (Each A₄ j) (Each A₅ j) (Each A₆ j) r → Lowest (A₄ j) (A₅ j) (A₆ j) c
    → Lowest (Each A₄ (j + 1)) (Each A₅ (j + 1)) (Each A₆ (j + 1)) (lower r c)
lowest_next A₄ A₅ A₆ j None None l m = (next_one A₄ j l.0 m.0, next_one A₅ j l.1 m.1, next_one A₆ j l.2 m.2)
lowest_next A₄ A₅ A₆ j None (Some Complementary) l m = here A₄ j m
lowest_next A₄ A₅ A₆ j None (Some Apart) l m = (next_one A₄ j l.0 m.0, here A₅ j m.1)
lowest_next A₄ A₅ A₆ j None (Some Hidden) l m = (next_one A₄ j l.0 m.0, next_one A₅ j l.1 m.1, here A₆ j m.2)
lowest_next A₄ A₅ A₆ j (Some Complementary) None l m = before A₄ j l
lowest_next A₄ A₅ A₆ j (Some Complementary) (Some Complementary) l m = before A₄ j l
lowest_next A₄ A₅ A₆ j (Some Complementary) (Some Apart) l m = before A₄ j l
lowest_next A₄ A₅ A₆ j (Some Complementary) (Some Hidden) l m = before A₄ j l
lowest_next A₄ A₅ A₆ j (Some Apart) None l m = (next_one A₄ j l.0 m.0, before A₅ j l.1)
lowest_next A₄ A₅ A₆ j (Some Apart) (Some Complementary) l m = here A₄ j m
lowest_next A₄ A₅ A₆ j (Some Apart) (Some Apart) l m = (next_one A₄ j l.0 m.0, before A₅ j l.1)
lowest_next A₄ A₅ A₆ j (Some Apart) (Some Hidden) l m = (next_one A₄ j l.0 m.0, before A₅ j l.1)
lowest_next A₄ A₅ A₆ j (Some Hidden) None l m = (next_one A₄ j l.0 m.0, next_one A₅ j l.1 m.1, before A₆ j l.2)
lowest_next A₄ A₅ A₆ j (Some Hidden) (Some Complementary) l m = here A₄ j m
lowest_next A₄ A₅ A₆ j (Some Hidden) (Some Apart) l m = (next_one A₄ j l.0 m.0, here A₅ j m.1)
lowest_next A₄ A₅ A₆ j (Some Hidden) (Some Hidden) l m = (next_one A₄ j l.0 m.0, next_one A₅ j l.1 m.1, before A₆ j l.2)
lowest_next A₄ A₅ A₆ j None (Some _) l m = absurd m
lowest_next A₄ A₅ A₆ j (Some Complementary) (Some _) l m = absurd m
lowest_next A₄ A₅ A₆ j (Some Apart) (Some _) l m = absurd m
lowest_next A₄ A₅ A₆ j (Some Hidden) (Some _) l m = absurd m
lowest_next A₄ A₅ A₆ j (Some _) c l m = absurd l

-- in the terms of the loop
abbrev At : (List Entry → Type 0) → List ℕ → List ℕ → List ℕ → List ℕ → List ℕ → ℕ → Type 0
At P acs es ss f s k = P (spots acs es ss (of f s k))

module _ (acs es ss : List ℕ) (rows : List Pair) (j : ℕ) where
  pub one_below : (r c : Option Condition) → CauseBelow j acs es ss (firsts rows) (seconds rows) r → CauseAt acs es ss (get_or rows j nothing).first (get_or rows j nothing).second c
      → CauseBelow (j + 1) acs es ss (firsts rows) (seconds rows) (lower r c)
  one_below r c l m = let f = firsts rows in let s = seconds rows in
      lowest_next (At Complements acs es ss f s) (At Beside acs es ss f s) (At Enclosed acs es ss f s) j r c l (rw (← first_at rows j, ← second_at rows j) at m)

  pub all_below : (r : Option Condition) → length rows ≤ j → j ≤ length rows → CauseBelow j acs es ss (firsts rows) (seconds rows) r → CauseBelow (length rows) acs es ss (firsts rows) (seconds rows) r
  all_below r h k l = let e : j ≡ length rows = omega arith in rw e at l

  -- the rows are in the columns
  pub placed_at : EachPlaced (length acs) (firsts rows) (seconds rows) → j < length rows → Placed (length acs) (get_or rows j nothing).first (get_or rows j nothing).second
  placed_at p h = rw (first_at, second_at) at (p.placed j (omega (arith, firsts-length rows)))
