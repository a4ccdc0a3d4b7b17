-- Bits of a word: of what `|`, `&` and `^` make, of all ones, of one bit alone, of a word without its lowest bit.
use mathlib.Core.Path.{◌≡◌, refl, sym, ◌∙◌}
use mathlib.Core.Logic.{◌⊎◌, inl, inr, ⊎_elim, ◌≢◌, ◌↔◌}
use Prim.Native.Nat.{ℕ, zero, suc, ◌+◌, ◌-◌, ◌*◌, ◌<◌, ◌/◌, ◌%◌, ◌^◌, min, max}
use native.Mathlib.Decide.{ℕ_discrete}
use native.Mathlib.Nat.{one-mul, zero-add}
use native.Mathlib.Omega.{arith}
use lib.Bits.{bit_and, bit_or, bit_xor, differ, and_step, or_step, xor_step, and_mask}
use lib.Dec.{lit<}
use lib.Pow.{shl_exact}
use Rattle.keyset.specs.Set.{bit, power}
use Rattle.keyset.proofs.Bits.{power-pow, bit_two, bit-set, bit_kept, empty_bit}
use Rattle.labelset.specs.Set.{even}

-- an operation that goes digit by digit goes bit by bit
module _ (op f : ℕ → ℕ → ℕ) (digit : (x y : ℕ) → x < 2 → y < 2 → f x y < 2) (step : (v w : ℕ) → op v w ≡ op (v / 2) (w / 2) * 2 + f (v % 2) (w % 2)) where
  bitwise_bit : (i v w : ℕ) → bit (op v w) i ≡ f (bit v i) (bit w i)
  unfolding bit
  bitwise_bit zero v w = omega (arith, step v w, digit (v % 2) (w % 2) (omega arith) (omega arith))
  bitwise_bit (suc i) v w =
      let e : op v w / 2 ≡ op (v / 2) (w / 2) = omega (arith, step v w, digit (v % 2) (w % 2) (omega arith) (omega arith)) in
      rw e (bitwise_bit i (v / 2) (w / 2))

-- one of two digits is 1
one_of : (x y : ℕ) → x < 2 → y < 2 → (max x y ≡ 1) ↔ ((x ≡ 1) ⊎ (y ≡ 1))
one_of x y h g = (λ e. pick (ℕ_discrete x 1) e, λ e. ⊎_elim (λ z. omega arith) (λ z. omega arith) e)
  where
    pick : Dec (x ≡ 1) → max x y ≡ 1 → (x ≡ 1) ⊎ (y ≡ 1)
    pick (yes z) e = inl z
    pick (no z) e = inr (omega arith)

-- how far two numbers are apart, for `omega`
differ_is : (x y : ℕ) → differ x y ≡ (x - y) + (y - x)
differ_is zero y = omega arith
differ_is (suc x) zero = omega arith
differ_is (suc x) (suc y) = omega (arith, differ_is x y)

module _ (i v w : ℕ) where
  pub bit_or_lem : (bit (bit_or v w) i ≡ 1) ↔ ((bit v i ≡ 1) ⊎ (bit w i ≡ 1))
  bit_or_lem = rw (bitwise_bit bit_or max (λ x y h g. omega arith) or_step i v w) (one_of (bit v i) (bit w i) (bit_two i v) (bit_two i w))

  both_bits : bit (bit_and v w) i ≡ min (bit v i) (bit w i)
  both_bits = bitwise_bit bit_and min (λ x y h g. omega arith) and_step i v w

  pub bit_and_lem : (bit (bit_and v w) i ≡ 1) ↔ ((bit v i ≡ 1) × (bit w i ≡ 1))
  bit_and_lem = rw both_bits (λ e. (omega (arith, bit_two i v, bit_two i w), omega (arith, bit_two i v, bit_two i w)), λ z. omega arith)

  -- the bits of v without those of w
  pub bit-without : (bit (bit_xor v (bit_and v w)) i ≡ 1) ↔ ((bit v i ≡ 1) × (bit w i ≢ 1))
  bit-without =
      let h = bit_two i v in
      let g = bit_two i w in
      rw (bitwise_bit bit_xor differ (λ x y h g. omega (arith, differ_is x y)) xor_step i v (bit_and v w), both_bits, differ_is) (λ e. (omega arith, λ z. omega arith), λ z. omega arith)

pub no_bit : {A : Type 0} (j : ℕ) → bit 0 j ≡ 1 → A
no_bit j e = absurd (omega (arith, empty_bit j))

-- a word that is not 0 has a bit
pub some_bit : (n w : ℕ) → w < power n → w ≢ 0 → (j : ℕ) × (j < n) × (bit w j ≡ 1)
unfolding bit power
some_bit zero w h f = absurd (f (omega arith))
some_bit (suc n) w h f = pick (ℕ_discrete (w % 2) 1) (λ g. some_bit n (w / 2) (omega arith) g)
  where
    pick : Dec (w % 2 ≡ 1) → (w / 2 ≢ 0 → (j : ℕ) × (j < n) × (bit (w / 2) j ≡ 1)) → (j : ℕ) × (j < suc n) × (bit w j ≡ 1)
    pick (yes e) more = (0, omega arith, e)
    pick (no g) more = let z = more (λ e. f (omega arith)) in (suc z.0, omega (arith, z.1), z.2)

-- 1 shifted by i is the value of bit i, and has that bit alone
pub one_shifted : (i : ℕ) → i < 64 → (1 * 2 ^ i) % 2 ^ 64 ≡ power i
one_shifted i h = shl_exact {a = 1} 1 i 64 (lit< tt) (omega arith) ∙ one-mul (2 ^ i) ∙ sym (power-pow i)

pub bit_power : (i j : ℕ) → (bit (power i) j ≡ 1) ↔ (j ≡ i)
bit_power i j = pick (ℕ_discrete j i)
  where
    pick : Dec (j ≡ i) → (bit (power i) j ≡ 1) ↔ (j ≡ i)
    pick (yes e) = (λ z. e, λ z. rw e (rw (zero-add (power i)) at (bit-set i 0 (empty_bit i))))
    pick (no f) = (λ z. absurd (omega (arith, rw (zero-add (power i)) at (bit_kept i j 0 (empty_bit i) f), empty_bit j)), λ e. absurd (f e))

-- the greatest word has all its bits: it shares with the value of each bit that bit
abbrev pub all_ones : ℕ
all_ones = 18446744073709551615

pub full_word : (i : ℕ) → i < 64 → bit all_ones i ≡ 1
full_word i h = let e = and_mask (1 * 2 ^ i) 64 ∙ one_shifted i h in ((bit_and_lem i (1 * 2 ^ i) all_ones).0 (rw e ((bit_power i i).1 refl))).1

-- without the lowest bit
pub bit_even : (j w : ℕ) → (bit (even w) j ≡ 1) ↔ ((bit w j ≡ 1) × (j ≢ 0))
unfolding bit
bit_even zero w = (λ e. absurd (omega arith), λ z. absurd (z.1 refl))
bit_even (suc j) w = let e : (w - w % 2) / 2 ≡ w / 2 = omega arith in rw e (λ z. (z, λ q. omega arith), λ z. z.0)
