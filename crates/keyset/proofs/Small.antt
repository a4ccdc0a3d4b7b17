-- The keys of a set are 16-bit numbers.
use mathlib.Core.Path.{◌≡◌, refl, sym, ◌∙◌}
use mathlib.Core.List.{List}
use mathlib.Core.Bool.{true, false, true≢false}
use Prim.Native.Nat.{ℕ, ◌/◌, ◌%◌, ◌<◌}
use native.Mathlib.Decide.{dec_lt}
use native.Mathlib.Omega.{arith}
use lib.ListN.{length, get_or, get_or-eq_default}
use Rattle.keyset.specs.Set.{member}
use Rattle.keyset.proofs.Bits.{empty_bit}

-- behind the end of a set there is no key
no_key : (s : List ℕ) (k : ℕ) → get_or s (k / 8) 0 ≡ 0 → member s k ≡ false
unfolding member
no_key s k e = rw (e, empty_bit (k % 8)) refl

pub member_small : (s : List ℕ) → length s ≡ 8192 → (k : ℕ) → member s k ≡ true → k < 65536
member_small s e k h = pick (dec_lt (k / 8) (length s))
  where
    pick : Dec (k / 8 < length s) → k < 65536
    pick (yes z) = omega (arith, e)
    pick (no z) = absurd (true≢false (sym h ∙ no_key s k (get_or-eq_default s 0 (omega arith))))
