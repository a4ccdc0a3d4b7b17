-- What the code computes, against ranks.
use mathlib.Core.Path.{◌≡◌, refl, sym, ◌∙◌}
use mathlib.Core.Logic.{◌≢◌}
use mathlib.Core.List.{List}
use mathlib.Core.Bool.{true, false}
use Prim.Native.Nat.{ℕ, zero, suc, ◌+◌, ◌*◌, ◌<◌, ◌≤◌, ◌/◌, ◌%◌}
use native.Mathlib.Decide.{ℕ_discrete, dec_lt}
use native.Mathlib.Numerals.{add-one}
use native.Mathlib.Omega.{arith}
use lib.ListN.{length, get_or, set}
use lib.Seq.{get_or-set_same, get_or-set_other}
use Rattle.keyset.specs.Set.{member}
use Rattle.keyset.proofs.Bits.{empty_bit}
use Rattle.keyset.proofs.Steps.{true_false}
use Rattle.rank.specs.Rank.{one_more, rank, Ranked}
use Rattle.rank.proofs.Ranks.{rank_out, rank_ordered, rank_less}

-- an empty byte holds none of its numbers
empty_byte : (s : List ℕ) (i k : ℕ) → get_or s i 0 ≡ 0 → k / 8 ≡ i → member s k ≡ false
unfolding member
empty_byte s i k e q = rw (q, e, empty_bit (k % 8))

-- and is passed at once
skip : (s : List ℕ) (i j n : ℕ) → get_or s i 0 ≡ 0 → j ≤ 8 → n ≡ i * 8 + j → rank s n ≡ rank s (i * 8)
unfolding rank
skip s i zero n e h q = let z : n ≡ i * 8 = omega arith in rw z
skip s i (suc j) zero e h q = absurd (omega arith)
skip s i (suc j) (suc n) e h q = rank_out s n (empty_byte s i n e (omega arith)) ∙ skip s i j n e (omega arith) (omega arith)

skip_byte : (s : List ℕ) (i n : ℕ) → get_or s i 0 ≡ 0 → n ≡ rank s (i * 8) → n ≡ rank s (i * 8 + 8)
skip_byte s i n e q = q ∙ sym (skip s i 8 (i * 8 + 8) e (omega arith) refl)

-- a number further on
pub climbs : (s : List ℕ) (k n r : ℕ) → r ≡ rank s k → n ≡ one_more (member s k) r → n ≡ rank s (k + 1)
unfolding rank
climbs s k n r e q = q ∙ rw (add-one k, e)

-- a byte with a member is not empty
holds_some : (s : List ℕ) (k : ℕ) → member s k ≡ true → get_or s (k / 8) 0 ≢ 0
holds_some s k m e = true_false (sym m ∙ empty_byte s (k / 8) k e refl)

-- no member, no byte to write down
pub none_ranked : (s base : List ℕ) → 0 ≡ rank s 65536 → Ranked s base
none_ranked s base e k l m = absurd (omega (arith, rank_less s k 65536 m l))

-- The bytes before place i were passed: for each that holds a member, the rank of its first number is written down.
pub record Passed (s base : List ℕ) (i n : ℕ) : Type 0 where
  pub next : n ≡ rank s (i * 8)
  pub first : (j : ℕ) → j < i → get_or s j 0 ≢ 0 → get_or base j 0 ≡ rank s (j * 8)

pub passed_none : (s base : List ℕ) → Passed s base 0 0
unfolding rank
passed_none s base = record { next = refl; first = λ j h. absurd (omega arith) }

module _ (s base : List ℕ) (i n : ℕ) (P : Passed s base i n) where
  -- once all are ranked, each stands in a byte that was passed
  pub all_ranked : (many : ℕ) → many ≡ rank s 65536 → many ≤ n → Ranked s base
  all_ranked many q h k l m = P.first (k / 8) (passed (dec_lt (k / 8) i)) (holds_some s k m)
    where
      passed : Dec (k / 8 < i) → k / 8 < i
      passed (yes g) = g
      passed (no g) = absurd (omega (arith, P.next, rank_less s k 65536 m l, rank_ordered s (i * 8) k (omega arith)))

  -- an empty byte is passed at once
  pub passed_empty : get_or s i 0 ≡ 0 → Passed s base (i + 1) n
  passed_empty e = record { next = skip_byte s i n e P.next ∙ next_byte; first = λ j h z. P.first j (before j h z (ℕ_discrete j i)) z }
    where
      next_byte : rank s (i * 8 + 8) ≡ rank s ((i + 1) * 8)
      next_byte = let q : (i + 1) * 8 ≡ i * 8 + 8 = omega arith in rw q

      before : (j : ℕ) → j < i + 1 → get_or s j 0 ≢ 0 → Dec (j ≡ i) → j < i
      before j h z (yes q) = absurd (z (rw q e))
      before j h z (no q) = omega arith

  -- any other is climbed
  pub passed_byte : i < length base → (r : ℕ) → r ≡ rank s (i * 8 + 8) → Passed s (set base i n) (i + 1) r
  passed_byte h r e = record { next = e ∙ next_byte; first = λ j l z. pick j l z (ℕ_discrete j i) }
    where
      next_byte : rank s (i * 8 + 8) ≡ rank s ((i + 1) * 8)
      next_byte = let q : (i + 1) * 8 ≡ i * 8 + 8 = omega arith in rw q

      pick : (j : ℕ) → j < i + 1 → get_or s j 0 ≢ 0 → Dec (j ≡ i) → get_or (set base i n) j 0 ≡ rank s (j * 8)
      pick j l z (yes q) = rw (q, get_or-set_same base i n 0 h) P.next
      pick j l z (no q) = rw (get_or-set_other base i j n 0 q) (P.first j (omega arith) z)
