-- Bits of a byte: read by a shift, and set by a sum.
use mathlib.Core.Path.{◌≡◌, refl, sym, ap, ◌∙◌}
use mathlib.Core.Logic.{◌≢◌}
use Prim.Native.Nat.{ℕ, zero, suc, ◌+◌, ◌*◌, ◌<◌, ◌/◌, ◌%◌, ◌^◌}
use native.Mathlib.Nat.{mul_comm, one-mul, pow-suc}
use native.Mathlib.Omega.{arith}
use lib.Dec.{lit<}
use lib.Pow.{shl_exact, shr-shr}
use Rattle.keyset.specs.Set.{bit, power}

-- a bit's value is a power of two
pub power-pow : (i : ℕ) → power i ≡ 2 ^ i
unfolding power
power-pow zero = refl
power-pow (suc i) = ap (λ (p : ℕ). 2 * p) (power-pow i) ∙ mul_comm 2 (2 ^ i) ∙ sym (pow-suc 2 i)

-- 1 shifted by i within a byte is the value of bit i
pub one_shifted : (i : ℕ) → i < 8 → (1 * 2 ^ i) % 2 ^ 8 ≡ power i
one_shifted i h = shl_exact {a = 1} 1 i 8 (lit< tt) (omega arith) ∙ one-mul (2 ^ i) ∙ sym (power-pow i)

-- bit i is what a shift by i leaves, modulo 2
pub bit_shifted : (i b : ℕ) → b / 2 ^ i % 2 ≡ bit b i
unfolding bit
bit_shifted zero b = omega arith
bit_shifted (suc i) b =
    let z : suc i ≡ 1 + i = omega arith in
    ap (λ (n : ℕ). b / 2 ^ n % 2) z ∙ ap (λ (n : ℕ). n % 2) (sym (shr-shr b 1 i)) ∙ bit_shifted i (b / 2)

pub bit_two : (i b : ℕ) → bit b i < 2
unfolding bit
bit_two zero b = omega arith
bit_two (suc i) b = bit_two i (b / 2)

half_sum : (b p : ℕ) → (b + 2 * p) / 2 ≡ b / 2 + p
half_sum b p = omega arith

pub bit-set : (i b : ℕ) → bit b i ≡ 0 → bit (b + power i) i ≡ 1
unfolding bit power
bit-set zero b e = omega arith
bit-set (suc i) b e = rw (half_sum b (power i)) (bit-set i (b / 2) e)

pub bit_kept : (i j b : ℕ) → bit b i ≡ 0 → j ≢ i → bit (b + power i) j ≡ bit b j
unfolding bit power
bit_kept zero zero b e n = absurd (n refl)
bit_kept zero (suc j) b e n = let h : (b + 1) / 2 ≡ b / 2 = omega arith in rw h
bit_kept (suc i) zero b e n = omega arith
bit_kept (suc i) (suc j) b e n = rw (half_sum b (power i)) (bit_kept i j (b / 2) e (λ q. n (ap suc q)))

-- a bit that is 0 fits in
bit_fits : (n i b : ℕ) → i < n → b < power n → bit b i ≡ 0 → b + power i < power n
unfolding bit power
bit_fits zero i b h l e = absurd (omega arith)
bit_fits (suc n) zero b h l e = omega arith
bit_fits (suc n) (suc i) b h l e = omega (arith, bit_fits n i (b / 2) (omega arith) (omega arith) e)

pub byte_fits : (i b : ℕ) → i < 8 → b < 256 → bit b i ≡ 0 → b + power i < 256
unfolding power
byte_fits i b h l e = bit_fits 8 i b h l e

-- a full byte has every bit
pub full_bit : (i : ℕ) → i < 8 → bit 255 i ≡ 1
unfolding bit
full_bit zero h = refl
full_bit (suc zero) h = refl
full_bit (suc (suc zero)) h = refl
full_bit (suc (suc (suc zero))) h = refl
full_bit (suc (suc (suc (suc zero)))) h = refl
full_bit (suc (suc (suc (suc (suc zero))))) h = refl
full_bit (suc (suc (suc (suc (suc (suc zero)))))) h = refl
full_bit (suc (suc (suc (suc (suc (suc (suc zero))))))) h = refl
full_bit (suc (suc (suc (suc (suc (suc (suc (suc i)))))))) h = absurd (omega arith)

pub empty_bit : (i : ℕ) → bit 0 i ≡ 0
unfolding bit
empty_bit zero = refl
empty_bit (suc i) = empty_bit i
