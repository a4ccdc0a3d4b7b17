-- The folds for the conditions 1 and 2 tell whether they hold.
use mathlib.Core.Path.{◌≡◌, refl}
use mathlib.Core.Logic.{◌⊎◌, inl, inr, ⊎_elim, ◌↔◌}
use mathlib.Core.Bool.{Bool, true, false, not, ◌&&◌, ◌||◌, false≢true}
use Prim.Native.Nat.{zero, suc}
use Rattle.ccsk.specs.Term.{Term, nil, pre, cho, par, res, Std}
use Rattle.sound.specs.Sound.{Waits, Chosen}
use Rattle.causes.specs.Tests.{holds, waits, chosen}

-- The test b tells A from B: true means A, false means B.
pub data Tells (A B : Type 0) : Bool → Type 0 where
  says_true : A → Tells A B true
  says_false : B → Tells A B false

swap : {A B : Type 0} {b : Bool} → Tells A B b → Tells B A (not b)
swap (says_true a) = says_false a
swap (says_false b) = says_true b

tells_iff : {A : Type 0} {b : Bool} → Tells A (¬ A) b → A ↔ (b ≡ true)
tells_iff (says_true p) = (λ x. refl, λ e. p)
tells_iff (says_false p) = (λ x. absurd (p x), λ e. absurd (false≢true e))

both : {A B : Type 0} {b c : Bool} → Tells A (¬ A) b → Tells B (¬ B) c → Tells (A × B) (¬ (A × B)) (b && c)
both (says_true p) (says_true q) = says_true (p, q)
both (says_true p) (says_false q) = says_false (λ x. q x.1)
both (says_false p) q = says_false (λ x. p x.0)

three : {A B C : Type 0} {b c : Bool} → Tells A (¬ A) b → Tells (B × C) (¬ (B × C)) c → Tells (A × B × C) (¬ (A × B × C)) (b && c)
three (says_true p) (says_true q) = says_true (p, q.0, q.1)
three (says_true p) (says_false q) = says_false (λ x. q (x.1, x.2))
three (says_false p) q = says_false (λ x. p x.0)

some_side : {A B : Type 0} {b c : Bool} → Tells (¬ A) A b → Tells (¬ B) B c → Tells (¬ (A × B)) (A × B) (b || c)
some_side (says_true p) q = says_true (λ x. p x.0)
some_side (says_false p) (says_true q) = says_true (λ x. q x.1)
some_side (says_false p) (says_false q) = says_false (p, q)

each_side : {A B : Type 0} {b c : Bool} → Tells (¬ A) A b → Tells (¬ B) B c → Tells (¬ (A ⊎ B)) (A ⊎ B) (b && c)
each_side (says_true p) (says_true q) = says_true (⊎_elim p q)
each_side (says_true p) (says_false q) = says_false (inr q)
each_side (says_false p) q = says_false (inl p)

pub holds_tells : (t : Term) → Tells (¬ Std t) (Std t) (holds t)
unfolding holds
holds_tells nil = says_false tt
holds_tells (pre a zero t) = holds_tells t
holds_tells (pre a (suc k) t) = says_true (λ s. s)
holds_tells (cho t u) = some_side (holds_tells t) (holds_tells u)
holds_tells (par t u) = some_side (holds_tells t) (holds_tells u)
holds_tells (res a t) = holds_tells t

waits_tells : (t : Term) → Tells (Waits t) (¬ Waits t) (waits t)
unfolding waits
waits_tells nil = says_true tt
waits_tells (pre a zero t) = swap (holds_tells t)
waits_tells (pre a (suc k) t) = waits_tells t
waits_tells (cho t u) = both (waits_tells t) (waits_tells u)
waits_tells (par t u) = both (waits_tells t) (waits_tells u)
waits_tells (res a t) = waits_tells t

chosen_tells : (t : Term) → Tells (Chosen t) (¬ Chosen t) (chosen t)
unfolding chosen
chosen_tells nil = says_true tt
chosen_tells (pre a k t) = chosen_tells t
chosen_tells (cho t u) = three (swap (each_side (holds_tells t) (holds_tells u))) (both (chosen_tells t) (chosen_tells u))
chosen_tells (par t u) = both (chosen_tells t) (chosen_tells u)
chosen_tells (res a t) = chosen_tells t

-- condition 1
pub waits_by_fold : (t : Term) → Waits t ↔ (waits t ≡ true)
waits_by_fold t = tells_iff (waits_tells t)

-- condition 2
pub chosen_by_fold : (t : Term) → Chosen t ↔ (chosen t ≡ true)
chosen_by_fold t = tells_iff (chosen_tells t)
