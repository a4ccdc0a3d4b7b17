-- The result of an undo is the term with every m made 0.
use mathlib.Core.Path.{◌≡◌, refl}
use mathlib.Core.Logic.{inl, inr}
use mathlib.Core.Bool.{Bool, true, false}
use Prim.Native.Nat.{ℕ}
use borrow.Author.Tests.{eq-eqb, ne_eqb}
use lib.Dec.{eqb}
use Rattle.ccsk.specs.Term.{Term, nil, pre, cho, par, res, Has}
use Rattle.ccsk.specs.Step.{Undo, Undo.top, Undo.prefix, Undo.choice₁, Undo.choice₂, Undo.par₁, Undo.par₂, Undo.synch, Undo.restrict}
use Rattle.ccsk.proofs.Basic.{std_has}
use Rattle.ccsk.proofs.Undo.{key_pos}

abbrev pub zeroed : Bool → ℕ → ℕ
zeroed true k = 0
zeroed false k = k

unfoldable pub clear : ℕ → Term → Term
clear m nil = nil
clear m (pre a k t) = pre a (zeroed (eqb m k) k) (clear m t)
clear m (cho t u) = cho (clear m t) (clear m u)
clear m (par t u) = par (clear m t) (clear m u)
clear m (res a t) = res a (clear m t)

clear_none : (m : ℕ) (t : Term) → ¬ Has m t → clear m t ≡ t
unfolding clear
clear_none m nil f = refl
clear_none m (pre a k t) f = rw (ne_eqb m k (λ e. f (inl e)), clear_none m t (λ i. f (inr i)))
clear_none m (cho t u) f = rw (clear_none m t (λ i. f (inl i)), clear_none m u (λ i. f (inr i)))
clear_none m (par t u) f = rw (clear_none m t (λ i. f (inl i)), clear_none m u (λ i. f (inr i)))
clear_none m (res a t) f = rw (clear_none m t f)

pub undo_clears : {t u : Term} {m l : ℕ} → Undo t m l u → clear m t ≡ u
unfolding clear
undo_clears (top {m = m} {t = t} h s) = rw (eq-eqb m m refl, clear_none m t (std_has t s h))
undo_clears (prefix {n = n} {m = m} h f d) = rw (ne_eqb m n f, undo_clears d)
undo_clears (choice₁ {m = m} {u = u} s d) = rw (undo_clears d, clear_none m u (std_has u s (key_pos d)))
undo_clears (choice₂ {m = m} {t = t} s d) = rw (undo_clears d, clear_none m t (std_has t s (key_pos d)))
undo_clears (par₁ {m = m} {u = u} f d) = rw (undo_clears d, clear_none m u f)
undo_clears (par₂ {m = m} {t = t} f d) = rw (undo_clears d, clear_none m t f)
undo_clears (synch c d e) = rw (undo_clears d, undo_clears e)
undo_clears (restrict f d) = rw (undo_clears d)
