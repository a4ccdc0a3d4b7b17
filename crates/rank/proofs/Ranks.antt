-- Ranks number the members of a set: they ascend with the members, start at 0, and end at the number of different members.
use mathlib.Core.Path.{◌≡◌, refl, sym, ◌∙◌}
use mathlib.Core.List.{List, [], ◌∷◌}
use mathlib.Core.Bool.{Bool, true, false}
use Prim.Native.Nat.{ℕ, zero, suc, ◌+◌, ◌-◌, ◌<◌, ◌≤◌}
use native.Mathlib.Decide.{ℕ_discrete, dec_lt}
use native.Mathlib.Omega.{arith}
use lib.ListN.{length, length-append}
use Rattle.ccsk.specs.Numbers.{distinct}
use Rattle.ccsk.proofs.Lists.{distinct-length}
use Rattle.keyset.specs.Set.{member, tick, members_below}
use Rattle.keyset.proofs.Counts.{Members, members_count}
use Rattle.rank.specs.Rank.{one_more, rank}

pub rank_in : (s : List ℕ) (k : ℕ) → member s k ≡ true → rank s (suc k) ≡ suc (rank s k)
unfolding rank
rank_in s k e = rw e

pub rank_out : (s : List ℕ) (k : ℕ) → member s k ≡ false → rank s (suc k) ≡ rank s k
unfolding rank
rank_out s k e = rw e

one_more_bound : (b : Bool) (n : ℕ) → (n ≤ one_more b n) × (one_more b n ≤ suc n)
one_more_bound true n = omega arith
one_more_bound false n = omega arith

-- a rank is no more than the number itself
pub rank_bound : (s : List ℕ) (k : ℕ) → rank s k ≤ k
unfolding rank
rank_bound s zero = omega arith
rank_bound s (suc k) = omega (arith, one_more_bound (member s k) (rank s k), rank_bound s k)

rank_climbs : (s : List ℕ) (k j n : ℕ) → n ≡ k + j → rank s k ≤ rank s n
unfolding rank
rank_climbs s k zero n e = let q : n ≡ k = omega arith in rw q (omega arith)
rank_climbs s k (suc j) zero e = absurd (omega arith)
rank_climbs s k (suc j) (suc n) e = omega (arith, one_more_bound (member s n) (rank s n), rank_climbs s k j n (omega arith))

pub rank_ordered : (s : List ℕ) (k j : ℕ) → k ≤ j → rank s k ≤ rank s j
rank_ordered s k j h = rank_climbs s k (j - k) j (omega arith)

-- the rank of a member is below that of every greater number
pub rank_less : (s : List ℕ) (k j : ℕ) → member s k ≡ true → k < j → rank s k < rank s j
rank_less s k j e h = omega (arith, rank_in s k e, rank_ordered s (suc k) j (omega arith))

-- members are ordered as their ranks are
pub rank_reflects : (s : List ℕ) (k j : ℕ) → member s j ≡ true → rank s k ≤ rank s j → k ≤ j
rank_reflects s k j e h = pick (dec_lt j k)
  where
    pick : Dec (j < k) → k ≤ j
    pick (yes g) = absurd (omega (arith, rank_less s j k e g))
    pick (no g) = omega arith

-- two members of one rank are one
pub rank_once : (s : List ℕ) (k j : ℕ) → member s k ≡ true → member s j ≡ true → rank s k ≡ rank s j → k ≡ j
rank_once s k j e f q = omega (arith, rank_reflects s k j f (omega arith), rank_reflects s j k e (omega arith))

-- r is the rank of a member below n
abbrev pub Reached : List ℕ → ℕ → ℕ → Type 0
Reached s n r = (k : ℕ) × (k < n) × (member s k ≡ true) × (rank s k ≡ r)

-- each number below the rank of n is the rank of a member below n
pub rank_reached : (s : List ℕ) (n r : ℕ) → r < rank s n → Reached s n r
unfolding rank
rank_reached s zero r h = absurd (omega arith)
rank_reached s (suc n) r h = pick (member s n) refl (ℕ_discrete r (rank s n)) (rank_reached s n r)
  where
    up : Reached s n r → Reached s (suc n) r
    up a = (a.0, omega arith, a.2, a.3)

    pick : (b : Bool) → member s n ≡ b → Dec (r ≡ rank s n) → (r < rank s n → Reached s n r) → Reached s (suc n) r
    pick true e (yes q) f = (n, omega arith, e, sym q)
    pick true e (no q) f = up (f (omega (arith, rank_in s n e)))
    pick false e d f = up (f (omega (arith, rank_out s n e)))

-- a rank is the length of a list
pub rank-length : (s : List ℕ) (k : ℕ) → rank s k ≡ length (members_below s k)
unfolding rank members_below
rank-length s zero = refl
rank-length s (suc k) = pick (member s k) (rank-length s k)
  where
    pick : (b : Bool) → rank s k ≡ length (members_below s k) → one_more b (rank s k) ≡ length (tick b k (members_below s k))
    pick true e = omega (arith, e, length-append (members_below s k) (k ∷ []))
    pick false e = e

-- the rank of n is how many different numbers a list has whose numbers are the members below n
pub rank_counts : (s : List ℕ) (n : ℕ) (l : List ℕ) → Members s n l → rank s n ≡ distinct l
rank_counts s n l f = rank-length s n ∙ members_count s n l f

-- and so no more than the list is long
pub rank_few : (s : List ℕ) (n : ℕ) (l : List ℕ) → Members s n l → rank s n ≤ length l
rank_few s n l f = omega (arith, rank_counts s n l f, distinct-length l)
