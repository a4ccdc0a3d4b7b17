-- The label of an undo, told by the prefixes that hold its key: one and its action, or two and tau.
use mathlib.Core.Path.{◌≡◌, refl, sym}
use mathlib.Core.Logic.{inl, inr}
use mathlib.Core.List.{List, [], ◌∷◌, ◌++◌, append-nil}
use native.Mathlib.Omega.{arith}
use borrow.Author.Tests.{eq-eqb, ne_eqb}
use Rattle.ccsk.specs.Term.{Term, Label, Key, Co, labels}
use Rattle.ccsk.specs.Step.{Undo, Undo.top, Undo.prefix, Undo.choice₁, Undo.choice₂, Undo.par₁, Undo.par₂, Undo.synch, Undo.restrict}
use Rattle.ccsk.proofs.Basic.{std_has, fresh_labels}
use Rattle.ccsk.proofs.Undo.{key_pos}
use Rattle.labels.specs.Labels.{no_label, gathered}

-- a step on prefixes with these actions has the label l
abbrev Tells : List Label → Label → Type 0
Tells [] l = ⊥
Tells (a ∷ []) l = a ≡ l
Tells (a ∷ (b ∷ [])) l = Co a b × (l ≡ 0)
Tells (a ∷ (b ∷ (c ∷ x))) l = ⊥

-- tau has no complement, and what is no action has none
co_action : (a b : Label) → Co a b → (a ≡ 0 → ⊥) × (b ≡ 0 → ⊥) × (a ≡ no_label → ⊥)
co_action a b (inl c) = (λ e. omega arith, λ e. omega arith, λ e. omega arith)
co_action a b (inr c) = (λ e. omega arith, λ e. omega arith, λ e. omega arith)

tells_both : (x y : List Label) (l k : Label) → Co l k → Tells x l → Tells y k → Tells (x ++ y) 0
tells_both [] y l k c e f = absurd e
tells_both (a ∷ []) [] l k c e f = absurd f
tells_both (a ∷ []) (b ∷ []) l k c e f = (rw (e, f) c, refl)
tells_both (a ∷ []) (b ∷ (b' ∷ [])) l k c e f = absurd ((co_action l k c).1 f.1)
tells_both (a ∷ []) (b ∷ (b' ∷ (z ∷ y))) l k c e f = absurd f
tells_both (a ∷ (a' ∷ [])) y l k c e f = absurd ((co_action l k c).0 e.1)
tells_both (a ∷ (a' ∷ (z ∷ x))) y l k c e f = absurd e

undo_tells : {t u : Term} {m : Key} {l : Label} → Undo t m l u → Tells (labels m t) l
unfolding labels
undo_tells (top {m = m} {t = t} h s) = rw (eq-eqb m m refl, fresh_labels m t (std_has t s h))
undo_tells (prefix {n = n} {m = m} h f d) = rw (ne_eqb m n f) (undo_tells d)
undo_tells (choice₁ {m = m} {u = u} s d) = rw (fresh_labels m u (std_has u s (key_pos d)), append-nil) (undo_tells d)
undo_tells (choice₂ {m = m} {t = t} s d) = rw (fresh_labels m t (std_has t s (key_pos d))) (undo_tells d)
undo_tells (par₁ {m = m} {u = u} f d) = rw (fresh_labels m u f, append-nil) (undo_tells d)
undo_tells (par₂ {m = m} {t = t} f d) = rw (fresh_labels m t f) (undo_tells d)
undo_tells (synch {m = m} {l = l} {k = k} {t = t} {u = u} c d e) = tells_both (labels m t) (labels m u) l k c (undo_tells d) (undo_tells e)
undo_tells (restrict f d) = undo_tells d

gathered_tells : (x : List Label) (l : Label) → Tells x l → gathered no_label x ≡ l
unfolding gathered
gathered_tells [] l e = absurd e
gathered_tells (a ∷ []) l e = e
gathered_tells (a ∷ (b ∷ [])) l e = rw (ne_eqb a no_label (co_action a b e.0).2) (sym e.1)
gathered_tells (a ∷ (b ∷ (c ∷ x))) l e = absurd e

-- what is gathered from all prefixes that hold the key is the label of its undo
pub undo_gathered : {t u : Term} {m : Key} {l : Label} → Undo t m l u → gathered no_label (labels m t) ≡ l
undo_gathered {t} {m = m} {l = l} d = gathered_tells (labels m t) l (undo_tells d)
