-- Which labels a set of four words has: label l is bit l % 64 of word l / 64.
use Rattle.std.specs.Prelude.{◌≡◌, ◌↔◌, cond, ℕ, zero, suc, ◌-◌, ◌/◌, ◌%◌, eqb}
use Rattle.keyset.specs.Set.{bit, power}
use Rattle.labelset.specs.declared.Labels.{Labels}

-- the word at place i, and 0 where there is none
abbrev pub word : Labels → ℕ → ℕ
word s zero = s.a
word s (suc zero) = s.b
word s (suc (suc zero)) = s.c
word s (suc (suc (suc zero))) = s.d
word s (suc (suc (suc (suc i)))) = 0

-- the label l is in the set
unfoldable pub Shows : Labels → ℕ → Type 0
Shows s l = bit (word s (l / 64)) (l % 64) ≡ 1

-- the set has the labels of which P holds, and no other
pub record Exactly (s : Labels) (P : ℕ → Type 0) : Type 0 where
  pub at : (l : ℕ) → Shows s l ↔ P l

-- the word at place i of the set that has the label x alone
unfoldable pub single : ℕ → ℕ → ℕ
single i x = cond (eqb (x / 64) i) (power (x % 64)) 0

-- a word without its lowest bit
abbrev pub even : ℕ → ℕ
even w = w - w % 2
