-- What the code computes, against bits and sets. The key k is widened to the index w.
use mathlib.Core.Path.{◌≡◌, sym, ◌∙◌}
use mathlib.Core.List.{List}
use mathlib.Core.Bool.{Bool, true, false}
use Prim.Native.Nat.{ℕ, ◌+◌, ◌*◌, ◌<◌, ◌/◌, ◌%◌, ◌^◌}
use native.Mathlib.Decide.{dec_lt}
use native.Mathlib.Omega.{arith}
use borrow.Author.Tests.{eqb-false}
use lib.Dec.{eqb}
use lib.ListN.{get_or, set}
use Rattle.keyset.specs.Set.{bit, power, member, Added, Missing}
use Rattle.keyset.proofs.Bits.{one_shifted, bit_shifted, bit_two, byte_fits}
use Rattle.keyset.proofs.Sets.{added_old, added_new, full_member}

pub true_false : ◌≡◌ {A = Bool} true false → ⊥
true_false e = let z : ◌≡◌ {A = ℕ} 0 1 = cc in omega arith

pub tested : (b i : ℕ) → eqb (b / 2 ^ i % 2) 1 ≡ eqb (bit b i) 1
tested b i = rw (bit_shifted i b)

pub room : (b i : ℕ) → i < 8 → bit b i ≡ 0 → b < 256 → b + (1 * 2 ^ i) % 2 ^ 8 < 256
room b i h z l = rw (one_shifted i h) (byte_fits i b h l z)

module _ (s : List ℕ) (k w : ℕ) (e : w ≡ k) where
  pub found : (r : Bool) → r ≡ eqb (bit (get_or s (w / 8) 0) (w % 8)) 1 → r ≡ member s k
  unfolding member
  found r q = q ∙ rw e

  pub bit_free : (r : Bool) → r ≡ eqb (bit (get_or s (w / 8) 0) (w % 8)) 1 → r ≡ false → bit (get_or s (w / 8) 0) (w % 8) ≡ 0
  bit_free r q f = omega (arith, bit_two (w % 8) (get_or s (w / 8) 0), eqb-false (bit (get_or s (w / 8) 0) (w % 8)) 1 (sym q ∙ f))

  pub put_in : (r : Bool) → r ≡ eqb (bit (get_or s (w / 8) 0) (w % 8)) 1 → r ≡ false → (b : ℕ) → b ≡ get_or s (w / 8) 0 + power (w % 8) → Added s k (set s (w / 8) b) 1
  put_in r q f b p = let n = sym (found r q) ∙ f in record { result = rw (added_new s k n, p, e); gain = rw n }

  pub kept : (r : Bool) → r ≡ eqb (bit (get_or s (w / 8) 0) (w % 8)) 1 → r ≡ true → Added s k s 0
  kept r q f = let o = sym (found r q) ∙ f in record { result = sym (added_old s k o); gain = rw o }

-- every number below k is in the set
abbrev pub Below : List ℕ → ℕ → Type 0
Below s k = (j : ℕ) → j < k → member s j ≡ true

-- the search stays within the set: it has not passed the number that is missing
pub within : (s : List ℕ) (k : ℕ) → Missing s → Below s k → k < 65536
within s k m b = pick (dec_lt m.0 k)
  where
    pick : Dec (m.0 < k) → k < 65536
    pick (yes h) = absurd (true_false (sym (b m.0 h) ∙ m.2))
    pick (no h) = omega (arith, m.1)

-- over a full byte at once
pub skip_byte : (s : List ℕ) (i : ℕ) → get_or s i 0 ≡ 255 → Below s (i * 8) → Below s ((i + 1) * 8)
skip_byte s i e b j h = pick (dec_lt j (i * 8))
  where
    pick : Dec (j < i * 8) → member s j ≡ true
    pick (yes l) = b j l
    pick (no l) = full_member s i j e (omega arith)
