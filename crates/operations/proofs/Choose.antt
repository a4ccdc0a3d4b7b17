-- Answers that are chosen by tests: reading first, then one test after the other.
use mathlib.Core.Path.{◌≡◌, refl, sym, ap, ◌∙◌}
use mathlib.Core.List.{List}
use Prim.Native.Nat.{ℕ, ◌<◌}
use native.Mathlib.Omega.{arith}
use Rattle.ccsk.specs.Term.{Term}
use Rattle.format.specs.Read.{Opened, Opened.refused, opened}

-- the first answer where the test holds, else the second
abbrev pub choose : {A X : Type 0} → Dec A → X → X → X
choose (yes a) x y = x
choose (no a) x y = y

pub choose_yes : {A X : Type 0} (d : Dec A) (x y : X) → A → choose d x y ≡ x
choose_yes (yes a) x y i = refl
choose_yes (no a) x y i = absurd (a i)

pub choose_no : {A X : Type 0} (d : Dec A) (x y : X) → ¬ A → choose d x y ≡ y
choose_no (yes a) x y i = absurd (i a)
choose_no (no a) x y i = refl

-- one answer for a refusal, one for a term that was read
abbrev pub on_read : {X : Type 0} → Opened → (ℕ → X) → (Term → X) → X
on_read (refused c) f g = f c
on_read (opened t) f g = g t

-- refusal number, label or count, bytes or row afterwards
abbrev pub Answer : Type 0
Answer = ℕ × ℕ × List ℕ

-- the answer fits the promise
abbrev pub Fit : (ℕ → ℕ → List ℕ → Type 0) → Answer → Type 0
Fit P x = P x.0 x.1 x.2

-- two answers are the same in each field
abbrev pub Same : Answer → Answer → Type 0
Same x y = (x.0 ≡ y.0) × (x.1 ≡ y.1) × (x.2 ≡ y.2)

pub same : {x y z : Answer} → z ≡ x → z ≡ y → Same x y
same e f = let g = sym e ∙ f in (ap (λ v. v.0) g, ap (λ v. v.1) g, ap (λ v. v.2) g)

pub positive : (m : ℕ) → ¬ (m ≡ 0) → 0 < m
positive m f = omega arith
