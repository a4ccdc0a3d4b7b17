-- The tests of the pass agree with the definitions: holds with std(X), stands with the keys of X.
use mathlib.Core.Path.{◌≡◌, refl}
use mathlib.Core.Logic.{◌⊎◌, inl, inr, ⊎_elim, ◌↔◌}
use mathlib.Core.Bool.{Bool, true, false, true≢false, false≢true, ◌||◌}
use Prim.Native.Nat.{ℕ, zero, suc}
use native.Mathlib.Omega.{arith}
use borrow.Author.Tests.{eqb-true, eqb-false, ne_eqb}
use lib.Dec.{eqb}
use Rattle.ccsk.specs.Term.{Term, Key, nil, pre, cho, par, res, Std, Has, Fsh}
use Rattle.moves.specs.Move.{holds, stands}

-- a test answers b of the statement A
abbrev pub Says : Bool → Type 0 → Type 0
Says true A = A
Says false A = ¬ A

pub equal_says : (a b : ℕ) → Says (eqb a b) (a ≡ b)
equal_says a b = pick (eqb a b) (eqb-true a b) (eqb-false a b)
  where
    pick : (c : Bool) → (c ≡ true → a ≡ b) → (c ≡ false → a ≡ b → ⊥) → Says c (a ≡ b)
    pick true f g = f refl
    pick false f g = g refl

-- a test for the contrary answers b
abbrev pub Denies : Bool → Type 0 → Type 0
Denies true A = ¬ A
Denies false A = A

both_deny : (A B : Type 0) (b c : Bool) → Denies b A → Denies c B → Denies (b || c) (A × B)
both_deny A B true c h i = λ s. h s.0
both_deny A B false true h i = λ s. i s.1
both_deny A B false false h i = (h, i)

-- the test `holds` answers b of the term t
abbrev pub Holding : Bool → Term → Type 0
Holding b t = Denies b (Std t)

pub holding : (t : Term) → Holding (holds t) t
unfolding holds
holding nil = tt
holding (pre a zero t) = holding t
holding (pre a (suc k) t) = rw (ne_eqb (suc k) 0 (λ e. omega arith)) (λ s. s)
holding (cho t u) = both_deny (Std t) (Std u) (holds t) (holds u) (holding t) (holding u)
holding (par t u) = both_deny (Std t) (Std u) (holds t) (holds u) (holding t) (holding u)
holding (res a t) = holding t

or_says : (A B : Type 0) (b c : Bool) → Says b A → Says c B → Says (b || c) (A ⊎ B)
or_says A B true c h i = inl h
or_says A B false true h i = inr i
or_says A B false false h i = ⊎_elim h i

pub standing : (m : Key) (t : Term) → Says (stands m t) (Has m t)
unfolding stands
standing m nil = λ i. i
standing m (pre a k t) = or_says (m ≡ k) (Has m t) (eqb m k) (stands m t) (equal_says m k) (standing m t)
standing m (cho t u) = or_says (Has m t) (Has m u) (stands m t) (stands m u) (standing m t) (standing m u)
standing m (par t u) = or_says (Has m t) (Has m u) (stands m t) (stands m u) (standing m t) (standing m u)
standing m (res a t) = standing m t

-- no prefix holds a key exactly if the test fails
pub holds_std : (t : Term) → holds t ≡ false ↔ Std t
holds_std t = pick (holds t) (holding t)
  where
    pick : (b : Bool) → Holding b t → b ≡ false ↔ Std t
    pick true h = (λ e. absurd (true≢false e), λ s. absurd (h s))
    pick false h = (λ e. h, λ s. refl)

-- the key m stands in the term exactly if the test succeeds
pub stands_has : (m : Key) (t : Term) → stands m t ≡ true ↔ Has m t
stands_has m t = pick (stands m t) (standing m t)
  where
    pick : (b : Bool) → Says b (Has m t) → b ≡ true ↔ Has m t
    pick true h = (λ e. h, λ i. refl)
    pick false h = (λ e. absurd (false≢true e), λ i. absurd (h i))

pub stands_fresh : (m : Key) (t : Term) → stands m t ≡ false ↔ Fsh m t
stands_fresh m t = pick (stands m t) (standing m t)
  where
    pick : (b : Bool) → Says b (Has m t) → b ≡ false ↔ Fsh m t
    pick true h = (λ e. absurd (true≢false e), λ f. absurd (f h))
    pick false h = (λ e. h, λ f. refl)
