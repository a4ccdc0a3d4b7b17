-- Sets of numbers: the empty set, and a set with one number more.
use mathlib.Core.Path.{◌≡◌, refl}
use mathlib.Core.Logic.{◌≢◌}
use mathlib.Core.List.{List}
use mathlib.Core.Bool.{Bool, true, false, cond}
use Prim.Native.Nat.{ℕ, ◌+◌, ◌*◌, ◌<◌, ◌≤◌, ◌/◌, ◌%◌}
use native.Mathlib.Decide.{ℕ_discrete}
use native.Mathlib.Omega.{arith}
use borrow.Author.Tests.{eqb-false}
use lib.ListN.{length, get_or, set, replicate, length-set, get_or-replicate}
use lib.Seq.{get_or-set_same, get_or-set_other}
use Rattle.keyset.specs.Set.{bit, power, member, added, Added}
use Rattle.keyset.proofs.Bits.{bit_two, bit-set, bit_kept, full_bit, empty_bit}

-- nothing is in the empty set
pub empty_member : (n k : ℕ) → k < n * 8 → member (replicate n 0) k ≡ false
unfolding member
empty_member n k h = rw (get_or-replicate {A = ℕ} n (k / 8) 0 0 (omega arith), empty_bit (k % 8))

-- a number that is not in the set has bit 0
pub bit-zero : (s : List ℕ) (k : ℕ) → member s k ≡ false → bit (get_or s (k / 8) 0) (k % 8) ≡ 0
unfolding member
bit-zero s k e = omega (arith, eqb-false (bit (get_or s (k / 8) 0) (k % 8)) 1 e, bit_two (k % 8) (get_or s (k / 8) 0))

-- the byte of k with k's bit
abbrev put : List ℕ → ℕ → ℕ
put s k = get_or s (k / 8) 0 + power (k % 8)

pub added_old : (s : List ℕ) (k : ℕ) → member s k ≡ true → added s k ≡ s
unfolding added
added_old s k e = rw e

pub added_new : (s : List ℕ) (k : ℕ) → member s k ≡ false → added s k ≡ set s (k / 8) (put s k)
unfolding added
added_new s k e = rw e

put_same : (s : List ℕ) (k : ℕ) → k < length s * 8 → member s k ≡ false → member (set s (k / 8) (put s k)) k ≡ true
unfolding member
put_same s k h e = let z = bit-zero s k e in rw (get_or-set_same s (k / 8) (put s k) 0 (omega arith), bit-set (k % 8) (get_or s (k / 8) 0) z)

put_other : (s : List ℕ) (k j : ℕ) → k < length s * 8 → member s k ≡ false → j ≢ k → member (set s (k / 8) (put s k)) j ≡ member s j
unfolding member
put_other s k j h e n = place (ℕ_discrete (j / 8) (k / 8)) (bit-zero s k e)
  where
    place : Dec (j / 8 ≡ k / 8) → bit (get_or s (k / 8) 0) (k % 8) ≡ 0 → member (set s (k / 8) (put s k)) j ≡ member s j
    place (yes q) z = rw (q, get_or-set_same s (k / 8) (put s k) 0 (omega arith), bit_kept (k % 8) (j % 8) (get_or s (k / 8) 0) z (λ w. n (omega arith)))
    place (no q) z = rw (get_or-set_other s (k / 8) (j / 8) (put s k) 0 q)

-- the array keeps its length
pub length_added : (s : List ℕ) (k : ℕ) → length (added s k) ≡ length s
length_added s k = pick (member s k) refl
  where
    pick : (b : Bool) → member s k ≡ b → length (added s k) ≡ length s
    pick true e = rw (added_old s k e)
    pick false e = rw (added_new s k e, length-set)

-- what was put in is in the set
pub added_same : (s : List ℕ) (k : ℕ) → k < length s * 8 → member (added s k) k ≡ true
added_same s k h = pick (member s k) refl
  where
    pick : (b : Bool) → member s k ≡ b → member (added s k) k ≡ true
    pick true e = rw (added_old s k e) e
    pick false e = rw (added_new s k e) (put_same s k h e)

-- and nothing else changes
pub added_other : (s : List ℕ) (k j : ℕ) → k < length s * 8 → j ≢ k → member (added s k) j ≡ member s j
added_other s k j h n = pick (member s k) refl
  where
    pick : (b : Bool) → member s k ≡ b → member (added s k) j ≡ member s j
    pick true e = rw (added_old s k e)
    pick false e = rw (added_new s k e) (put_other s k j h e n)

-- a full byte holds its eight numbers
pub full_member : (s : List ℕ) (i k : ℕ) → get_or s i 0 ≡ 255 → k / 8 ≡ i → member s k ≡ true
unfolding member
full_member s i k e q = rw (q, e, full_bit (k % 8) (omega arith))

-- at most one number more
pub gain_few : {s s' : List ℕ} {k r : ℕ} → Added s k s' r → r ≤ 1
gain_few {s} {k = k} A = rw A.gain (one_or_none (member s k))
  where
    one_or_none : (b : Bool) → cond b 0 1 ≤ 1
    one_or_none true = omega arith
    one_or_none false = omega arith
