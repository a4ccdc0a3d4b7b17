-- The cases that 01 marks (P), on bytes, about the promises themselves: each answer is computed and then fits.
use mathlib.Core.Path.{◌≡◌, refl}
use mathlib.Core.List.{List, [], ◌∷◌, ◌++◌}
use Prim.Native.Nat.{ℕ}
use native.Mathlib.Decide.{ℕ_discrete, dec_lt, dec_le}
use Rattle.ccsk.specs.Term.{Name, Label, Key, Node, labels, keys, size}
use Rattle.ccsk.specs.Place.{shift, places}
use Rattle.ccsk.proofs.Basic.{has?}
use Rattle.ccsk.specs.Without.{without}
use Rattle.ccsk.specs.Decide.{channel?, co?, on?}
use Rattle.ccsk.proofs.Decide.{std?}
use Rattle.ccsk.proofs.ForwardDec.{forward?, do_zero, do_pre, do_cho, do_par, do_res, below?, unshift, zero?}
use Rattle.ccsk.proofs.UndoDec.{undo?}
use Rattle.sound.proofs.Peel.{acyclic?, peel, look, find, empty}
use Rattle.sound.proofs.Top.{above?, before?, ordered?}
use Rattle.sound.proofs.Decide.{verdict, waits?, chosen?, twice?, paired?, split?, hidden?, apart?, two?, keys?, each?}
use Rattle.format.specs.Read.{decode, read, node, kind_of, finish}
use Rattle.format.specs.Encode.{encode}
use Rattle.operations.specs.Change.{ForwardStep, UndoStep}
use Rattle.operations.specs.Ask.{Soundness}
use Rattle.operations.proofs.Choose.{Fit}
use Rattle.operations.proofs.Places.{places?, prefix?}
use Rattle.operations.proofs.ChangeOnce.{forward_answer, forward_of, forward_some, undo_answer, undo_of, undo_step_some}
use Rattle.operations.proofs.NumberOnce.{FitNumber, sound_answer, sound_some}

-- an answer that is computed fits the promise
pub forward_computed : {s b : List ℕ} {p q : Node} {m : Key} {r : ℕ} {l : Label} → forward_answer s p q m ≡ (r, l, b) → ForwardStep s p q m r l b
forward_computed {s} {b} {p} {q} {m} {r} {l} e = let f : Fit (ForwardStep s p q m) (r, l, b) = rw e at (forward_some s p q m) in f

pub undo_computed : {s b : List ℕ} {m : Key} {r : ℕ} {l : Label} → undo_answer s m ≡ (r, l, b) → UndoStep s m r l b
undo_computed {s} {b} {m} {r} {l} e = let f : Fit (UndoStep s m) (r, l, b) = rw e at (undo_step_some s m) in f

pub sound_computed : {s : List ℕ} {r v : ℕ} → sound_answer s ≡ (r, v) → Soundness s r v
sound_computed {s} {r} {v} e = let f : FitNumber (Soundness s) (r, v) = rw e at (sound_some s) in f

-- the bytes of 0; of the prefix a or a[k] before X; of X + Y and of X | Y; of X under a restriction on a
abbrev pub stop : List ℕ
stop = 0 ∷ []

abbrev pub act : Label → Key → List ℕ → List ℕ
act a k x = 1 ∷ (a ∷ (0 ∷ (k ∷ x)))

abbrev pub or : List ℕ → List ℕ → List ℕ
or x y = 2 ∷ (x ++ y)

abbrev pub beside : List ℕ → List ℕ → List ℕ
beside x y = 3 ∷ (x ++ y)

abbrev pub under : Name → List ℕ → List ℕ
under a x = 4 ∷ (a ∷ x)

-- a.0 or a[k].0
abbrev pub one : Label → Key → List ℕ
one a k = act a k stop

-- verdict 7: a[1].b[2].0 | b'[2].a'[1].0
abbrev crossed : List ℕ
crossed = beside (act 1 1 (one 2 2)) (act 130 2 (one 129 1))

-- a is 1, b is 2, a' is 129, b' is 130; tau is 0
pub marked :
    -- a.0, place 0, key 1; and undo 1
    ForwardStep (one 1 0) 0 0 1 0 1 (one 1 1)
    × UndoStep (one 1 1) 1 0 1 (one 1 0)
    -- a[1].b[2].0: undo 1 refused 8; undo 2 gives a[1].b.0
    × UndoStep (act 1 1 (one 2 2)) 1 8 0 (act 1 1 (one 2 2))
    × UndoStep (act 1 1 (one 2 2)) 2 0 2 (act 1 1 (one 2 0))
    -- a[1].0 | a'[1].0: undo 1, label 0, both cleared
    × UndoStep (beside (one 1 1) (one 129 1)) 1 0 0 (beside (one 1 0) (one 129 0))
    -- a[1].0 | a'[2].0: undo 1, label 1, the right side stays
    × UndoStep (beside (one 1 1) (one 129 2)) 1 0 1 (beside (one 1 0) (one 129 2))
    -- a.0 | a'.0 under a restriction on a: places 2 and 4 together, label 0; place 2 alone refused 6
    × ForwardStep (under 1 (beside (one 1 0) (one 129 0))) 2 4 1 0 0 (under 1 (beside (one 1 1) (one 129 1)))
    × ForwardStep (under 1 (beside (one 1 0) (one 129 0))) 2 0 1 6 0 (under 1 (beside (one 1 0) (one 129 0)))
    -- a[1].0 + b.0: place 3, key 2 refused 6
    × ForwardStep (or (one 1 1) (one 2 0)) 3 0 2 6 0 (or (one 1 1) (one 2 0))
    -- a.0 | b[1].0: place 1, key 1 refused 5
    × ForwardStep (beside (one 1 0) (one 2 1)) 1 0 1 5 0 (beside (one 1 0) (one 2 1))
    -- t.0 | t.0: places 1 and 3, key 1 refused 6
    × ForwardStep (beside (one 0 0) (one 0 0)) 1 3 1 6 0 (beside (one 0 0) (one 0 0))
    -- verdict 1: a.b[1].0. Verdict 2: a[1].0 + b[2].0
    × Soundness (act 1 0 (one 2 1)) 0 1
    × Soundness (or (one 1 1) (one 2 2)) 0 2
    -- verdict 4: a[1].0 | a[1].0, and t[1].0 | t[1].0
    × Soundness (beside (one 1 1) (one 1 1)) 0 4
    × Soundness (beside (one 0 1) (one 0 1)) 0 4
    -- verdict 5: a[1].a'[1].0. Verdict 6: a[1].0 under a restriction on a
    × Soundness (act 1 1 (one 129 1)) 0 5
    × Soundness (under 1 (one 1 1)) 0 6
    -- verdict 7: a[1].b[2].0 | b'[2].a'[1].0; both undos refused 8
    × Soundness crossed 0 7
    × UndoStep crossed 1 8 0 crossed
    × UndoStep crossed 2 8 0 crossed
unfolding decode read node kind_of finish encode forward_answer forward_of undo_answer undo_of sound_answer places? prefix? forward? do_zero do_pre do_cho do_par do_res below? unshift zero? size shift places undo? has? std? co? on? channel? verdict waits? chosen? twice? paired? split? hidden? apart? two? keys? each? ordered? acyclic? peel look find empty above? before? labels keys without dec_le ℕ_discrete dec_lt
marked = (
  forward_computed refl,
  undo_computed refl,
  undo_computed refl,
  undo_computed refl,
  undo_computed refl,
  undo_computed refl,
  forward_computed refl,
  forward_computed refl,
  forward_computed refl,
  forward_computed refl,
  forward_computed refl,
  sound_computed refl,
  sound_computed refl,
  sound_computed refl,
  sound_computed refl,
  sound_computed refl,
  sound_computed refl,
  sound_computed refl,
  undo_computed refl,
  undo_computed refl,
)
