-- A key can be undone exactly if its places are ready.
use mathlib.Core.Path.{◌≡◌, refl, ◌∙◌}
use mathlib.Core.Logic.{◌↔◌}
use mathlib.Core.List.{List, [], ◌∷◌}
use mathlib.Core.Bool.{true}
use Prim.Native.Nat.{ℕ, ◌<◌, ◌≤◌}
use native.Mathlib.Omega.{arith}
use lib.ListN.{length}
use Rattle.ccsk.specs.Term.{Term, Key, Label, labels, size}
use Rattle.ccsk.specs.Step.{Undoable}
use Rattle.ccsk.proofs.Lists.{get_or_zeros}
use Rattle.ccsk.proofs.Undo.{present}
use Rattle.format.specs.Encode.{InRange}
use Rattle.moves.specs.Choose.{undo_choice}
use Rattle.moves.specs.Move.{Move, move}
use Rattle.moves.proofs.Undone.{UndoTells, undo_tells}
use Rattle.lasts.specs.declared.Last.{Last}
use Rattle.lasts.specs.Last.{slot, open_scopes, all_lasts, only, Ready}
use Rattle.lasts.proofs.Told.{Dead, Dead.lost, Dead.many, Dead.hidden, Dead.clash, Told, Told.none, Told.lone, Told.pair, Told.dead, Above}
use Rattle.lasts.proofs.Nodes.{told}

open_above : Above 0 open_scopes
open_above = record { whole = refl; past = λ l. omega (arith, get_or_zeros 128 (slot l)) }

-- as many places are last as hold the key, one or two
pub ready_count : (c : ℕ) (x : List Last) → Ready c x → (length x ≡ c) × (c ≤ 2)
ready_count c [] r = absurd r
ready_count c (e ∷ []) r = omega arith
ready_count c (e ∷ (f ∷ [])) r = omega arith
ready_count c (e ∷ (f ∷ (g ∷ x))) r = absurd r

dead_not_ready : (b : ℕ) (x : List Last) (c : List Label) → Dead 0 b x c → ¬ Ready (length c) x
dead_not_ready b x c (lost h) r = omega (arith, ready_count (length c) x r)
dead_not_ready b x c (many h) r = omega (arith, ready_count (length c) x r)
dead_not_ready b _ _ (hidden h i) r = omega arith
dead_not_ready b _ _ (clash f) r = f (r.1, r.2)

decides : (m : Key) (t : Term) (b : ℕ) (x : List Last) (c : List Label) (v : Move) → Told open_scopes 0 b x c v → UndoTells m t v → Undoable t m ↔ Ready (length c) x
decides m t b _ _ _ none f = (λ u. absurd (f (present u.2)), λ r. absurd r)
decides m t b _ _ _ (lone {l = l} a p q) u = (λ w. (refl, q ∙ get_or_zeros 128 (slot l)), λ r. (l, u.0, u.1))
decides m t b _ _ _ (pair o q) u = (λ w. (refl, o, q), λ r. (0, u.0, u.1))
decides m t b x c _ (dead d) u = (λ w. absurd (u.1 w), λ r. absurd (dead_not_ready b x c d r))

-- The undo of m is allowed exactly if its places are ready.
pub undoable_iff_ready : (m : Key) (t : Term) → 0 < m → InRange t → Undoable t m ↔ Ready (length (labels m t)) (only m (all_lasts t))
undoable_iff_ready m t h r = decides m t (size t) (only m (all_lasts t)) (labels m t) (move (undo_choice m) (λ k. true) 0 t)
    (told m h 0 (size t) open_scopes t open_above (omega arith) r) (undo_tells m h 0 t)
