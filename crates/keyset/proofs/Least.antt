-- The least number that is missing from a set: in the first byte with room, at its lowest bit that is 0.
use mathlib.Core.Path.{◌≡◌, refl, sym, ◌∙◌}
use mathlib.Core.Logic.{◌≢◌}
use mathlib.Core.List.{List}
use mathlib.Core.Bool.{Bool, true, false, not}
use Prim.Native.Nat.{ℕ, ◌+◌, ◌-◌, ◌*◌, ◌<◌, ◌/◌}
use native.Mathlib.Decide.{ℕ_discrete, dec_lt}
use native.Mathlib.Omega.{arith}
use borrow.Author.Tests.{eq-eqb, ne_eqb, lt-ltb}
use lib.Dec.{eqb}
use lib.ListN.{length, get_or}
use mir.Syntax.{w8}
use Rattle.std.specs.Prelude.{Some, IsSome, position}
use Rattle.std.specs.List.{position_or_len}
use Rattle.std.specs.Int.{trailing_ones}
use Rattle.std.proofs.lemmas.List.Quantifiers.{position-Some}
use Rattle.std.proofs.lemmas.List.Sums.{fails_before_first}
use Rattle.std.proofs.lemmas.Nat.Bits.{bit_at-trailing_ones}
use Rattle.keyset.specs.Set.{bit, member, Missing, LeastMissing}
use Rattle.keyset.proofs.Bits.{bit_shifted}
use Rattle.keyset.proofs.Sets.{full_member}
use Rattle.keyset.proofs.Steps.{true_false}
use Rattle.keyset.proofs.Members.{member_at}

-- the byte does not hold all its eight numbers
abbrev roomy : ℕ → Bool
roomy b = not (eqb b 255)

full : (b : ℕ) → roomy b ≡ false → b ≡ 255
full b e = pick (ℕ_discrete b 255)
  where
    pick : Dec (b ≡ 255) → b ≡ 255
    pick (yes q) = q
    pick (no q) = absurd (true_false (rw (ne_eqb b 255 q) at e))

no_full : (b : ℕ) → roomy b ≡ true → b ≢ 255
no_full b e q = true_false (sym (rw (eq-eqb b 255 q) at e))

pub some_room : (s : List ℕ) → length s ≡ 8192 → Missing s → IsSome (position (λ (b : ℕ). not (eqb b 255)) s)
some_room s n m = pick (dec_lt (position_or_len roomy s) (length s))
  where
    pick : Dec (position_or_len roomy s < length s) → IsSome (position roomy s)
    pick (yes h) = rw (lt-ltb (position_or_len roomy s) (length s) h)
    pick (no h) = absurd (true_false (sym (full_member s (m.0 / 8) m.0 (full (get_or s (m.0 / 8) 0) (fails_before_first roomy s (m.0 / 8) 0 (omega (arith, n, m.1)))) refl) ∙ m.2))

module _ (s : List ℕ) (i : ℕ) (e : position (λ (b : ℕ). not (eqb b 255)) s ≡ Some i) (t : ℕ) (q : t ≡ trailing_ones w8 (get_or s i 0)) (h : get_or s i 0 < 256) where
  ones : (t < 8) × (bit (get_or s i 0) t ≡ 0) × ((j : ℕ) → j < t → bit (get_or s i 0) j ≡ 1)
  ones = let p = position-Some roomy s i 0 e in
      let w = bit_at-trailing_ones w8 (get_or s i 0) (omega (arith, no_full (get_or s i 0) p.1)) in
      rw q (w.0, sym (bit_shifted (trailing_ones w8 (get_or s i 0)) (get_or s i 0)) ∙ w.1, λ j l. sym (bit_shifted j (get_or s i 0)) ∙ w.2 j l)

  pub in_range : length s ≡ 8192 → i * 8 + t < 65536
  in_range n = omega (arith, (position-Some roomy s i 0 e).0, ones)

  pub least : LeastMissing s (i * 8 + t)
  least = record { missing = member_at s i t ones.0 ∙ rw ones.1; least = λ j l. pick j l (dec_lt j (i * 8)) }
    where
      pick : (j : ℕ) → j < i * 8 + t → Dec (j < i * 8) → member s j ≡ true
      pick j l (yes b) = full_member s (j / 8) j (full (get_or s (j / 8) 0) ((position-Some roomy s i 0 e).2 (j / 8) (omega arith))) refl
      pick j l (no b) = let z : i * 8 + (j - i * 8) ≡ j = omega arith in let o = ones in
          rw (← z) (member_at s i (j - i * 8) (omega (arith, o.0)) ∙ rw (o.2 (j - i * 8) (omega arith)))
