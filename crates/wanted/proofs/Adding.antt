-- Marks that are added.
use mathlib.Core.Path.{refl, ◌∙◌}
use mathlib.Core.Logic.Iff
use mathlib.Core.Logic.{◌⊎◌, inl, inr, ⊎_elim, ⊎_map, ◌↔◌}
use mathlib.Core.List.{List}
use Prim.Native.Nat.{ℕ}
use Rattle.ccsk.specs.Term.{Node}
use Rattle.wanted.specs.Pass.{Adds}

-- one of two statements, each put for another that holds just if it does
pub one_of : {A B C D : Type 0} → A ↔ C → B ↔ D → (A ⊎ B) ↔ (C ⊎ D)
one_of f g = (⊎_map f.0 g.0, ⊎_map f.1 g.1)

-- no mark more
pub adds_none : {P : Node → Type 0} {M : List ℕ} → ((i : Node) → ¬ P i) → Adds P M M
adds_none f = record { at = λ i. (inl, λ w. ⊎_elim (λ z. z) (λ z. absurd (f i z)) w); room = refl }

pub adds_same : {P Q : Node → Type 0} {M M' : List ℕ} → ((i : Node) → P i ↔ Q i) → Adds P M M' → Adds Q M M'
adds_same f a = record { at = λ i. Iff.trans (a.at i) (one_of Iff.rfl (f i)); room = a.room }

-- one pass after another
pub adds_both : {P Q : Node → Type 0} {M M' M'' : List ℕ} → Adds Q M M' → Adds P M' M'' → Adds (λ i. P i ⊎ Q i) M M''
adds_both a b = record { at = λ i. Iff.trans (b.at i) (Iff.trans (one_of (a.at i) Iff.rfl) swapped); room = b.room ∙ a.room }
  where
    swapped : {A B C : Type 0} → ((A ⊎ B) ⊎ C) ↔ (A ⊎ (C ⊎ B))
    swapped = (λ w. ⊎_elim (λ z. ⊎_map (λ y. y) inr z) (λ z. inr (inl z)) w, λ w. ⊎_elim (λ z. inl (inl z)) (λ z. ⊎_elim inr (λ y. inl (inr y)) z) w)
