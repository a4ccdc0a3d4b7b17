-- Forward step, undo, blank form: for every input exactly one answer fits the promise, and it can be computed.
use mathlib.Core.Path.{◌≡◌, refl, sym, ◌∙◌}
use mathlib.Core.List.{List}
use Prim.Native.Nat.{ℕ}
use native.Mathlib.Decide.{ℕ_discrete}
use Rattle.ccsk.specs.Numbers.{distinct}
use Rattle.ccsk.specs.Term.{Term, Label, Key, Node, Has, keys, blank}
use Rattle.ccsk.specs.Step.{Undo, Undoable}
use Rattle.ccsk.specs.Place.{ForwardAt}
use Rattle.ccsk.proofs.Basic.{has?, never}
use Rattle.ccsk.proofs.Place.{step_once}
use Rattle.ccsk.proofs.Loop.{undo_of_forward}
use Rattle.ccsk.proofs.Undo.{key_pos, present, absent, undo_once}
use Rattle.ccsk.proofs.ForwardDec.{forward?}
use Rattle.ccsk.proofs.UndoDec.{undo?}
use Rattle.format.specs.Read.{Reads, decode, Opened, Opened.refused, opened}
use Rattle.format.specs.Encode.{encode}
use Rattle.operations.specs.Order.{pair, ArePlaces}
use Rattle.operations.specs.Change.{ForwardStep, UndoStep, BlankForm}
use Rattle.operations.proofs.Choose.{choose, choose_yes, choose_no, on_read, Answer, Fit, Same, same, positive}
use Rattle.operations.proofs.Places.{places?, forward_places}

-- forward step
abbrev made : {t : Term} {m : Key} {x : List Node} → List ℕ → Dec (ForwardAt t m x) → Answer
made s (yes w) = (0, w.0, encode w.1)
made s (no w) = (6, 0, s)

unfoldable pub forward_of : List ℕ → Node → Node → Key → Term → Answer
forward_of s p q m t = choose (ℕ_discrete m 0) (3, 0, s) (choose (places? t p q) (choose (has? m t) (5, 0, s) (made s (forward? t m (pair p q)))) (4, 0, s))

unfoldable pub forward_answer : List ℕ → Node → Node → Key → Answer
forward_answer s p q m = on_read (decode s) (λ c. (c, 0, s)) (forward_of s p q m)

made_once : {t : Term} {m : Key} {x : List Node} (s : List ℕ) (d : Dec (ForwardAt t m x)) (w : ForwardAt t m x) → made s d ≡ (0, w.0, encode w.1)
made_once s (yes v) w = let i = step_once v.2 w.2 (v.3 ∙ sym w.3) in rw (i.0, i.1)
made_once s (no f) w = absurd (f w)

made_no : {t : Term} {m : Key} {x : List Node} (s : List ℕ) (d : Dec (ForwardAt t m x)) → ¬ ForwardAt t m x → made s d ≡ (6, 0, s)
made_no s (yes v) f = absurd (f v)
made_no s (no v) f = refl

pub forward_only : {s : List ℕ} {p q : Node} {m : Key} {r : ℕ} {l : Label} {b : List ℕ} → ForwardStep s p q m r l b → forward_answer s p q m ≡ (r, l, b)
unfolding forward_answer forward_of
forward_only (ForwardStep.unreadable e) = rw e
forward_only {m = m} (ForwardStep.key_zero e z) = rw (e, choose_yes (ℕ_discrete m 0) _ _ z)
forward_only {p = p} {q = q} {m = m} (ForwardStep.no_places {t = t} e h f) = rw (e, choose_no (ℕ_discrete m 0) _ _ (never h), choose_no (places? t p q) _ _ f)
forward_only {p = p} {q = q} {m = m} (ForwardStep.key_stands {t = t} e h a i) = rw (e, choose_no (ℕ_discrete m 0) _ _ (never h), choose_yes (places? t p q) _ _ a, choose_yes (has? m t) _ _ i)
forward_only {s} {p = p} {q = q} {m = m} (ForwardStep.not_derived {t = t} e h a i f) =
    rw (e, choose_no (ℕ_discrete m 0) _ _ (never h), choose_yes (places? t p q) _ _ a, choose_no (has? m t) _ _ i) (made_no s (forward? t m (pair p q)) f)
forward_only {s} {p = p} {q = q} {m = m} (ForwardStep.done {t = t} e w) =
    rw (e, choose_no (ℕ_discrete m 0) _ _ (never (key_pos (undo_of_forward w.2))), choose_yes (places? t p q) _ _ (forward_places t m p q w), choose_no (has? m t) _ _ (absent (undo_of_forward w.2)))
    (made_once s (forward? t m (pair p q)) w)

pub forward_some : (s : List ℕ) (p q : Node) (m : Key) → Fit (ForwardStep s p q m) (forward_answer s p q m)
unfolding forward_answer forward_of
forward_some s p q m = read (decode s) refl
  where
    tests : (t : Term) → Reads s t → (a : Dec (m ≡ 0)) (b : Dec (ArePlaces t p q)) (c : Dec (Has m t)) (d : Dec (ForwardAt t m (pair p q)))
        → Fit (ForwardStep s p q m) (choose a (3, 0, s) (choose b (choose c (5, 0, s) (made s d)) (4, 0, s)))
    tests t e (yes z) b c d = ForwardStep.key_zero e z
    tests t e (no z) (no b) c d = ForwardStep.no_places e (positive m z) b
    tests t e (no z) (yes b) (yes c) d = ForwardStep.key_stands e (positive m z) b c
    tests t e (no z) (yes b) (no c) (no d) = ForwardStep.not_derived e (positive m z) b c d
    tests t e (no z) (yes b) (no c) (yes w) = ForwardStep.done e w

    read : (o : Opened) → decode s ≡ o → Fit (ForwardStep s p q m) (on_read o (λ c. (c, 0, s)) (forward_of s p q m))
    read (refused c) e = ForwardStep.unreadable e
    read (opened t) e = tests t e (ℕ_discrete m 0) (places? t p q) (has? m t) (forward? t m (pair p q))

-- only one answer fits the promise of a forward step
pub forward_once : {s b b' : List ℕ} {p q : Node} {m : Key} {r r' : ℕ} {l l' : Label} → ForwardStep s p q m r l b → ForwardStep s p q m r' l' b' → Same (r, l, b) (r', l', b')
forward_once d e = same (forward_only d) (forward_only e)

-- undo
abbrev undone : {t : Term} {m : Key} → List ℕ → Dec (Undoable t m) → Answer
undone s (yes w) = (0, w.0, encode w.1)
undone s (no w) = (8, 0, s)

unfoldable pub undo_of : List ℕ → Key → Term → Answer
undo_of s m t = choose (ℕ_discrete m 0) (3, 0, s) (choose (has? m t) (undone s (undo? t m)) (7, 0, s))

unfoldable pub undo_answer : List ℕ → Key → Answer
undo_answer s m = on_read (decode s) (λ c. (c, 0, s)) (undo_of s m)

undone_once : {t u : Term} {m : Key} {l : Label} (s : List ℕ) (d : Dec (Undoable t m)) → Undo t m l u → undone s d ≡ (0, l, encode u)
undone_once s (yes v) w = let i = undo_once v.2 w in rw (i.0, i.1)
undone_once {u = u} {l = l} s (no f) w = absurd (f (l, u, w))

undone_no : {t : Term} {m : Key} (s : List ℕ) (d : Dec (Undoable t m)) → ¬ Undoable t m → undone s d ≡ (8, 0, s)
undone_no s (yes v) f = absurd (f v)
undone_no s (no v) f = refl

pub undo_only : {s b : List ℕ} {m : Key} {r : ℕ} {l : Label} → UndoStep s m r l b → undo_answer s m ≡ (r, l, b)
unfolding undo_answer undo_of
undo_only (UndoStep.unreadable e) = rw e
undo_only {m = m} (UndoStep.key_zero e z) = rw (e, choose_yes (ℕ_discrete m 0) _ _ z)
undo_only {m = m} (UndoStep.key_absent {t = t} e h f) = rw (e, choose_no (ℕ_discrete m 0) _ _ (never h), choose_no (has? m t) _ _ f)
undo_only {s} {m = m} (UndoStep.not_derived {t = t} e h i f) = rw (e, choose_no (ℕ_discrete m 0) _ _ (never h), choose_yes (has? m t) _ _ i) (undone_no s (undo? t m) f)
undo_only {s} {m = m} (UndoStep.done {t = t} e d) = rw (e, choose_no (ℕ_discrete m 0) _ _ (never (key_pos d)), choose_yes (has? m t) _ _ (present d)) (undone_once s (undo? t m) d)

pub undo_step_some : (s : List ℕ) (m : Key) → Fit (UndoStep s m) (undo_answer s m)
unfolding undo_answer undo_of
undo_step_some s m = read (decode s) refl
  where
    tests : (t : Term) → Reads s t → (a : Dec (m ≡ 0)) (b : Dec (Has m t)) (c : Dec (Undoable t m)) → Fit (UndoStep s m) (choose a (3, 0, s) (choose b (undone s c) (7, 0, s)))
    tests t e (yes z) b c = UndoStep.key_zero e z
    tests t e (no z) (no b) c = UndoStep.key_absent e (positive m z) b
    tests t e (no z) (yes b) (no c) = UndoStep.not_derived e (positive m z) b c
    tests t e (no z) (yes b) (yes w) = UndoStep.done e w.2

    read : (o : Opened) → decode s ≡ o → Fit (UndoStep s m) (on_read o (λ c. (c, 0, s)) (undo_of s m))
    read (refused c) e = UndoStep.unreadable e
    read (opened t) e = tests t e (ℕ_discrete m 0) (has? m t) (undo? t m)

-- only one answer fits the promise of an undo
pub undo_step_once : {s b b' : List ℕ} {m : Key} {r r' : ℕ} {l l' : Label} → UndoStep s m r l b → UndoStep s m r' l' b' → Same (r, l, b) (r', l', b')
undo_step_once d e = same (undo_only d) (undo_only e)

-- blank form
unfoldable pub blank_answer : List ℕ → Answer
blank_answer s = on_read (decode s) (λ c. (c, 0, s)) (λ t. (0, distinct (keys t), encode (blank t)))

pub blank_only : {s b : List ℕ} {r n : ℕ} → BlankForm s r n b → blank_answer s ≡ (r, n, b)
unfolding blank_answer
blank_only (BlankForm.unreadable e) = rw e
blank_only (BlankForm.done e) = rw e

pub blank_some : (s : List ℕ) → Fit (BlankForm s) (blank_answer s)
unfolding blank_answer
blank_some s = read (decode s) refl
  where
    read : (o : Opened) → decode s ≡ o → Fit (BlankForm s) (on_read o (λ c. (c, 0, s)) (λ t. (0, distinct (keys t), encode (blank t))))
    read (refused c) e = BlankForm.unreadable e
    read (opened t) e = BlankForm.done e

-- only one answer fits the promise of the blank form
pub blank_once : {s b b' : List ℕ} {r r' n n' : ℕ} → BlankForm s r n b → BlankForm s r' n' b' → Same (r, n, b) (r', n', b')
blank_once d e = same (blank_only d) (blank_only e)
