-- The move of the prefixes that hold m decides the undo of m: none holds m, or the rules derive an undo with the label, or they derive none.
use mathlib.Core.Path.{◌≡◌}
use mathlib.Core.Logic.{inl, inr, ⊎_elim, ◌≢◌}
use mathlib.Core.Bool.{Bool, true, false, not}
use Prim.Native.Nat.{◌+◌, ◌<◌}
use native.Mathlib.Omega.{arith}
use lib.Dec.{eqb}
use Rattle.ccsk.specs.Term.{Term, Name, Label, Key, Node, nil, pre, cho, par, res, Has, Fsh, Co, On, size}
use Rattle.ccsk.specs.Step.{Undo, Undo.top, Undo.prefix, Undo.choice₁, Undo.choice₂, Undo.par₁, Undo.par₂, Undo.synch, Undo.restrict, Undoable}
use Rattle.ccsk.proofs.Basic.{never, std_has}
use Rattle.ccsk.proofs.Undo.{present, std_stuck}
use Rattle.ccsk.specs.Decide.{co?, on?}
use Rattle.ccsk.proofs.UndoDec.{inv_pre, inv_cho, inv_par, inv_res, label}
use Rattle.moves.specs.Choose.{undo_choice}
use Rattle.moves.specs.Move.{Move, still, step, stuck, holds, own, pass, move_over_prefix, move_over_choice, move_over_parallel, move_over_restriction, joined_if, hidden_if, move}
use Rattle.moves.proofs.Holds.{Says, equal_says, Holding, holding}

-- what a move tells of the undo of m
abbrev pub UndoTells : Key → Term → Move → Type 0
UndoTells m t still = Fsh m t
UndoTells m t (step l) = (u : Term) × Undo t m l u
UndoTells m t stuck = Has m t × ¬ Undoable t m

module _ (m : Key) (h : 0 < m) where
  at_own : (a : Label) (k : Key) (t : Term) (b : Bool) (x : Move) → m ≡ k → Holding b t → UndoTells m t x → UndoTells m (pre a k t) (own true b a x)
  at_own a k t true x e s r = (inl e, λ z. ⊎_elim (λ i. s i.0) (λ i. i.0 e) (inv_pre z.2).1)
  at_own a k t false still e s r = (pre a 0 t, rw (← e) (top h s))
  at_own a k t false (step l) e s r = absurd (std_stuck s r.1)
  at_own a k t false stuck e s r = absurd (std_has t s h r.0)

  at_pass : (a : Label) (k : Key) (t : Term) (b : Bool) (x : Move) → m ≢ k → Says b (k ≡ 0) → UndoTells m t x → UndoTells m (pre a k t) (pass (not b) x)
  at_pass a k t b still e z r = ⊎_elim e r
  at_pass a k t true (step l) e z r = (inr (present r.1), λ w. never (inv_pre w.2).0 z)
  at_pass a k t false (step l) e z r = (pre a k r.0, prefix {n = k} (omega arith) e r.1)
  at_pass a k t b stuck e z r = (inr r.0, λ w. ⊎_elim (λ i. e i.1) (λ i. r.1 i.1) (inv_pre w.2).1)

  at_pre : (a : Label) (k : Key) (t : Term) (b c d : Bool) (x : Move) → Says b (m ≡ k) → Says c (k ≡ 0) → Holding d t → UndoTells m t x
      → UndoTells m (pre a k t) (move_over_prefix b true (not c) d a x)
  at_pre a k t true c d x e z s r = at_own a k t d x e s r
  at_pre a k t false c d x e z s r = at_pass a k t c x e z r

  at_cho : (t u : Term) (b c : Bool) (x y : Move) → Holding b t → Holding c u → UndoTells m t x → UndoTells m u y → UndoTells m (cho t u) (move_over_choice b c x y)
  at_cho t u b c still still s s' r r' = ⊎_elim r r'
  at_cho t u b true (step l) still s s' r r' = (inl (present r.1), λ z. ⊎_elim (λ i. s' i.0) (λ i. std_stuck i.0 r.1) (inv_cho z.2))
  at_cho t u b false (step l) still s s' r r' = (cho r.0 u, choice₁ s' r.1)
  at_cho t u true c still (step l) s s' r r' = (inr (present r'.1), λ z. ⊎_elim (λ i. std_stuck i.0 r'.1) (λ i. s i.0) (inv_cho z.2))
  at_cho t u false c still (step l) s s' r r' = (cho t r'.0, choice₂ s r'.1)
  at_cho t u b c (step l) (step k) s s' r r' = (inl (present r.1), λ z. ⊎_elim (λ i. std_stuck i.0 r'.1) (λ i. std_stuck i.0 r.1) (inv_cho z.2))
  at_cho t u b c (step l) stuck s s' r r' = (inl (present r.1), λ z. ⊎_elim (λ i. std_has u i.0 h r'.0) (λ i. std_stuck i.0 r.1) (inv_cho z.2))
  at_cho t u b c still stuck s s' r r' = (inr r'.0, λ z. ⊎_elim (λ i. std_has u i.0 h r'.0) (λ i. r'.1 i.1) (inv_cho z.2))
  at_cho t u b c stuck y s s' r r' = (inl r.0, λ z. ⊎_elim (λ i. r.1 i.1) (λ i. std_has t i.0 h r.0) (inv_cho z.2))

  -- m stands on both sides: only joining is left
  at_both : (t u v w : Term) (l k : Label) (d : Dec (Co l k)) → Undo t m l v → Undo u m k w → UndoTells m (par t u) (joined_if d)
  at_both t u v w l k (yes c) d e = (par v w, synch c d e)
  at_both t u v w l k (no c) d e =
      (inl (present d), λ z. ⊎_elim (λ i. i.0 (present e)) (⊎_elim (λ i. i.0 (present d)) (λ i. c (rw (label (l, v, d) i.0, label (k, w, e) i.1) i.2))) (inv_par z.2))

  at_par : (t u : Term) (x y : Move) → UndoTells m t x → UndoTells m u y → UndoTells m (par t u) (move_over_parallel x y)
  at_par t u still still r r' = ⊎_elim r r'
  at_par t u still (step l) r r' = (par t r'.0, par₂ r r'.1)
  at_par t u still stuck r r' = (inr r'.0, λ z. ⊎_elim (λ i. i.0 r'.0) (⊎_elim (λ i. r'.1 i.1) (λ i. r'.1 i.1)) (inv_par z.2))
  at_par t u (step l) still r r' = (par r.0 u, par₁ r' r.1)
  at_par t u (step l) (step k) r r' = at_both t u r.0 r'.0 l k (co? l k) r.1 r'.1
  at_par t u (step l) stuck r r' = (inr r'.0, λ z. ⊎_elim (λ i. i.0 r'.0) (⊎_elim (λ i. r'.1 i.1) (λ i. r'.1 i.1)) (inv_par z.2))
  at_par t u stuck y r r' = (inl r.0, λ z. ⊎_elim (λ i. r.1 i.1) (⊎_elim (λ i. i.0 r.0) (λ i. r.1 i.0)) (inv_par z.2))

  at_hidden : (a : Name) (l : Label) (t v : Term) (d : Dec (On a l)) → Undo t m l v → UndoTells m (res a t) (hidden_if d l)
  at_hidden a l t v (yes o) d = (present d, λ z. (inv_res z.2).1 (rw (label (l, v, d) (inv_res z.2).0) at o))
  at_hidden a l t v (no o) d = (res a v, restrict o d)

  at_res : (a : Name) (t : Term) (x : Move) → UndoTells m t x → UndoTells m (res a t) (move_over_restriction a x)
  at_res a t still r = r
  at_res a t (step l) r = at_hidden a l t r.0 (on? a l) r.1
  at_res a t stuck r = (r.0, λ z. r.1 (inv_res z.2).0)

-- what the whole pass tells, whatever node the term's root is
pub undo_tells : (m : Key) → 0 < m → (n : Node) (t : Term) → UndoTells m t (move (undo_choice m) (λ k. true) n t)
unfolding move
undo_tells m h n nil = λ i. i
undo_tells m h n (pre a k t) = at_pre m h a k t (eqb m k) (eqb k 0) (holds t) (move (undo_choice m) (λ k. true) (n + 1) t) (equal_says m k) (equal_says k 0) (holding t) (undo_tells m h (n + 1) t)
undo_tells m h n (cho t u) = at_cho m h t u (holds t) (holds u) (move (undo_choice m) (λ k. true) (n + 1) t) (move (undo_choice m) (λ k. true) (n + 1 + size t) u)
    (holding t) (holding u) (undo_tells m h (n + 1) t) (undo_tells m h (n + 1 + size t) u)
undo_tells m h n (par t u) = at_par m h t u (move (undo_choice m) (λ k. true) (n + 1) t) (move (undo_choice m) (λ k. true) (n + 1 + size t) u) (undo_tells m h (n + 1) t) (undo_tells m h (n + 1 + size t) u)
undo_tells m h n (res a t) = at_res m h a t (move (undo_choice m) (λ k. true) (n + 1) t) (undo_tells m h (n + 1) t)
