-- How many numbers a set has: as many as a list has different ones whose numbers are the set's.
use mathlib.Core.Path.{◌≡◌, refl, sym, ap, ◌∙◌}
use mathlib.Core.Logic.{inl, ◌↔◌}
use mathlib.Core.List.{List, [], ◌∷◌}
use mathlib.Core.Bool.{Bool, true, false}
use Prim.Native.Nat.{ℕ, zero, suc, ◌+◌, ◌<◌}
use native.Mathlib.Decide.{ℕ_discrete}
use native.Mathlib.Omega.{arith}
use lib.ListN.{length, length-append}
use Rattle.ccsk.specs.Numbers.{In, distinct}
use Rattle.ccsk.specs.Without.{without}
use Rattle.ccsk.proofs.Lists.{in_without, distinct_without, gone}
use Rattle.keyset.specs.Set.{member, tick, members_below}
use Rattle.keyset.proofs.Steps.{true_false}

-- the list has the members below n
abbrev pub Members : List ℕ → ℕ → List ℕ → Type 0
Members s n l = (k : ℕ) → In k l ↔ ((k < n) × (member s k ≡ true))

members_without : (s : List ℕ) (n : ℕ) (l : List ℕ) → Members s (suc n) l → Members s n (without n l)
members_without s n l f k = at (ℕ_discrete k n)
  where
    at : Dec (k ≡ n) → In k (without n l) ↔ ((k < n) × (member s k ≡ true))
    at (yes q) = (λ i. absurd (gone n l (rw q at i)), λ h. absurd (omega arith))
    at (no q) = (λ i. let w = (f k).0 ((in_without k n l q).0 i) in (omega arith, w.1), λ h. (in_without k n l q).1 ((f k).1 (omega arith, h.1)))

members_same : (s : List ℕ) (n : ℕ) (l : List ℕ) → member s n ≡ false → Members s (suc n) l → Members s n l
members_same s n l e f k = (λ i. smaller ((f k).0 i) (ℕ_discrete k n), λ h. (f k).1 (omega arith, h.1))
  where
    smaller : (k < suc n) × (member s k ≡ true) → Dec (k ≡ n) → (k < n) × (member s k ≡ true)
    smaller h (yes q) = absurd (true_false (sym h.1 ∙ rw q e))
    smaller h (no q) = (omega arith, h.1)

pub members_count : (s : List ℕ) (n : ℕ) (l : List ℕ) → Members s n l → length (members_below s n) ≡ distinct l
unfolding members_below distinct
members_count s zero [] f = refl
members_count s zero (a ∷ l) f = absurd (omega (arith, ((f a).0 (inl refl)).0))
members_count s (suc n) l f = pick (member s n) refl (λ e. members_count s n (without n l) (members_without s n l f)) (λ e. members_count s n l (members_same s n l e f))
  where
    pick : (b : Bool) → member s n ≡ b → (member s n ≡ true → length (members_below s n) ≡ distinct (without n l)) → (member s n ≡ false → length (members_below s n) ≡ distinct l)
        → length (tick b n (members_below s n)) ≡ distinct l
    pick true e g h = let z : length (members_below s n) + 1 ≡ suc (length (members_below s n)) = omega arith in length-append (members_below s n) (n ∷ []) ∙ z ∙ ap suc (g e) ∙ sym (distinct_without n l ((f n).1 (omega arith, e)))
    pick false e g h = h e
