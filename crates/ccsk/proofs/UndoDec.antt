-- Whether the rules derive an undo of a key, decided along the term.
use mathlib.Core.Path.{◌≡◌, refl}
use mathlib.Core.Logic.{◌⊎◌, inl, inr, ⊎_elim, ◌≢◌}
use Prim.Native.Nat.{ℕ, zero, suc, ◌<◌}
use native.Mathlib.Decide.{ℕ_discrete}
use native.Mathlib.Omega.{arith}
use Rattle.ccsk.specs.Term.{Term, nil, pre, cho, par, res, Std, Has, Co, On}
use Rattle.ccsk.specs.Step.{Undo, Undo.top, Undo.prefix, Undo.choice₁, Undo.choice₂, Undo.par₁, Undo.par₂, Undo.synch, Undo.restrict, Undoable}
use Rattle.ccsk.proofs.Basic.{has?, never}
use Rattle.ccsk.proofs.Undo.{present, undo_once}
use Rattle.ccsk.specs.Decide.{co?, on?}
use Rattle.ccsk.proofs.Decide.{std?}

pub inv_nil : {m l : ℕ} {u : Term} → Undo nil m l u → ⊥
inv_nil = elim [ ]

pub inv_pre : {a k m l : ℕ} {t u : Term} → Undo (pre a k t) m l u → (0 < k) × ((Std t × (m ≡ k)) ⊎ ((m ≢ k) × Undoable t m))
inv_pre (top h s) = (h, inl (s, refl))
inv_pre (prefix h n d) = (h, inr (n, (_, _, d)))

pub inv_cho : {m l : ℕ} {t u v : Term} → Undo (cho t u) m l v → (Std u × Undoable t m) ⊎ (Std t × Undoable u m)
inv_cho (choice₁ s d) = inl (s, (_, _, d))
inv_cho (choice₂ s d) = inr (s, (_, _, d))

pub inv_par : {m l : ℕ} {t u v : Term} → Undo (par t u) m l v
    → (¬ Has m u × Undoable t m) ⊎ ((¬ Has m t × Undoable u m) ⊎ ((x : Undoable t m) × (y : Undoable u m) × Co x.0 y.0))
inv_par (par₁ f d) = inl (f, (_, _, d))
inv_par (par₂ f d) = inr (inl (f, (_, _, d)))
inv_par (synch c d e) = inr (inr ((_, _, d), (_, _, e), c))

pub inv_res : {a m l : ℕ} {t u : Term} → Undo (res a t) m l u → (x : Undoable t m) × ¬ On a x.0
inv_res (restrict f d) = ((_, _, d), f)

pub label : {t : Term} {m : ℕ} (x y : Undoable t m) → x.0 ≡ y.0
label x y = (undo_once x.2 y.2).0

abbrev at_pre : {a k m : ℕ} {t : Term} → Dec (m ≡ suc k) → Dec (Std t) → Dec (Undoable t m) → Dec (Undoable (pre a (suc k) t) m)
at_pre {a} {k} {m} {t} (yes e) (yes s) d = yes (a, pre a 0 t, rw e (top {m = suc k} (omega arith) s))
at_pre (yes e) (no s) d = no (λ x. ⊎_elim (λ i. s i.0) (λ i. i.0 e) (inv_pre x.2).1)
at_pre {a} {k} (no e) s (yes d) = yes (d.0, pre a (suc k) d.1, prefix {n = suc k} (omega arith) e d.2)
at_pre (no e) s (no d) = no (λ x. ⊎_elim (λ i. e i.1) (λ i. d i.1) (inv_pre x.2).1)

abbrev at_cho : {m : ℕ} {t u : Term} → Dec (Std t) → Dec (Std u) → Dec (Undoable t m) → Dec (Undoable u m) → Dec (Undoable (cho t u) m)
at_cho {u = u} s (yes r) (yes d) e = yes (d.0, cho d.1 u, choice₁ r d.2)
at_cho {t = t} (yes s) (yes r) (no d) (yes e) = yes (e.0, cho t e.1, choice₂ s e.2)
at_cho (yes s) (yes r) (no d) (no e) = no (λ x. ⊎_elim (λ i. d i.1) (λ i. e i.1) (inv_cho x.2))
at_cho (no s) (yes r) (no d) e = no (λ x. ⊎_elim (λ i. d i.1) (λ i. s i.0) (inv_cho x.2))
at_cho {t = t} (yes s) (no r) d (yes e) = yes (e.0, cho t e.1, choice₂ s e.2)
at_cho (yes s) (no r) d (no e) = no (λ x. ⊎_elim (λ i. r i.0) (λ i. e i.1) (inv_cho x.2))
at_cho (no s) (no r) d e = no (λ x. ⊎_elim (λ i. r i.0) (λ i. s i.0) (inv_cho x.2))

-- both sides can undo m: then m stands in both, and only joining is left
abbrev at_both : {m : ℕ} {t u : Term} (x : Undoable t m) (y : Undoable u m) → Dec (Co x.0 y.0) → Dec (Undoable (par t u) m)
at_both x y (yes c) = yes (0, par x.1 y.1, synch c x.2 y.2)
at_both x y (no c) = no (λ z. ⊎_elim (λ i. i.0 (present y.2)) (⊎_elim (λ i. i.0 (present x.2)) (λ i. c (rw (label x i.0, label y i.1) i.2))) (inv_par z.2))

abbrev at_par : {m : ℕ} {t u : Term} → Dec (Has m t) → Dec (Has m u) → Dec (Undoable t m) → Dec (Undoable u m) → ((x : Undoable t m) (y : Undoable u m) → Dec (Co x.0 y.0)) → Dec (Undoable (par t u) m)
at_par h i (yes x) (yes y) c = at_both x y (c x y)
at_par {u = u} h (no i) (yes x) (no y) c = yes (x.0, par x.1 u, par₁ i x.2)
at_par h (yes i) (yes x) (no y) c = no (λ z. ⊎_elim (λ j. j.0 i) (⊎_elim (λ j. y j.1) (λ j. y j.1)) (inv_par z.2))
at_par {t = t} (no h) i (no x) (yes y) c = yes (y.0, par t y.1, par₂ h y.2)
at_par (yes h) i (no x) (yes y) c = no (λ z. ⊎_elim (λ j. x j.1) (⊎_elim (λ j. j.0 h) (λ j. x j.0)) (inv_par z.2))
at_par h i (no x) (no y) c = no (λ z. ⊎_elim (λ j. x j.1) (⊎_elim (λ j. y j.1) (λ j. x j.0)) (inv_par z.2))

abbrev at_res : {a m : ℕ} {t : Term} → Dec (Undoable t m) → ((x : Undoable t m) → Dec (On a x.0)) → Dec (Undoable (res a t) m)
at_res (no x) f = no (λ z. x (inv_res z.2).0)
at_res {a} {m} {t} (yes x) f = pick (f x)
  where
    pick : Dec (On a x.0) → Dec (Undoable (res a t) m)
    pick (yes o) = no (λ z. (inv_res z.2).1 (rw (label x (inv_res z.2).0) at o))
    pick (no o) = yes (x.0, res a x.1, restrict o x.2)

unfoldable pub undo? : (t : Term) (m : ℕ) → Dec (Undoable t m)
undo? nil m = no (λ x. inv_nil x.2)
undo? (pre a zero t) m = no (λ x. never (inv_pre x.2).0 refl)
undo? (pre a (suc k) t) m = at_pre (ℕ_discrete m (suc k)) (std? t) (undo? t m)
undo? (cho t u) m = at_cho (std? t) (std? u) (undo? t m) (undo? u m)
undo? (par t u) m = at_par (has? m t) (has? m u) (undo? t m) (undo? u m) (λ x y. co? x.0 y.0)
undo? (res a t) m = at_res (undo? t m) (λ x. on? a x.0)
