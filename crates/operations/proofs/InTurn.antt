-- Undos in turn, on terms: which keys they take, and that only one run fits, which can be computed (02, [6]).
use mathlib.Core.Path.{◌≡◌, refl, sym, ap}
use mathlib.Core.Logic.{inl, inr}
use mathlib.Core.List.{List, [], ◌∷◌}
use Prim.Native.Nat.{ℕ, zero, suc, ◌<◌, ◌≤◌}
use native.Mathlib.Omega.{arith}
use lib.ListN.{length}
use Rattle.ccsk.specs.Numbers.{In, in?, distinct, Lists}
use Rattle.ccsk.specs.Term.{Term, Key, Has, Fsh, keys}
use Rattle.ccsk.specs.Step.{Undoable}
use Rattle.ccsk.specs.Decide.{both}
use Rattle.ccsk.proofs.Clear.{clear, undo_clears}
use Rattle.ccsk.proofs.Keys.{has_in}
use Rattle.ccsk.proofs.Undo.{key_pos, present}
use Rattle.ccsk.proofs.UndoDec.{undo?}
use Rattle.sound.specs.Run.{Undos}
use Rattle.sound.proofs.Taken.{undos_left, undos_distinct}
use Rattle.operations.specs.TakeBack.{Next, InTurn}
use Rattle.operations.proofs.Lists.{above, pass, lists_some}

-- undos in turn are a run of undos
pub turn_undos : {goes : Key → Type 0} {ks : List Key} {t u : Term} → InTurn goes ks t u → Undos ks t u
turn_undos (InTurn.all_gone f) = Undos.stay
turn_undos (InTurn.then n d r) = Undos.then d (turn_undos r)

-- only keys that go are undone
pub turn_goes : {goes : Key → Type 0} {ks : List Key} {t u : Term} (k : Key) → InTurn goes ks t u → In k ks → goes k
turn_goes k (InTurn.all_gone f) i = absurd i
turn_goes k (InTurn.then n d r) (inl e) = rw e n.still
turn_goes k (InTurn.then n d r) (inr i) = turn_goes k r i

-- afterwards none that goes is left
pub turn_ends : {goes : Key → Type 0} {ks : List Key} {t u : Term} (k : Key) → InTurn goes ks t u → goes k → Fsh k u
turn_ends k (InTurn.all_gone f) g = f k g
turn_ends k (InTurn.then n d r) g = turn_ends k r g

-- every key that goes and stands there is undone
pub turn_all : {goes : Key → Type 0} {ks : List Key} {t u : Term} (k : Key) → InTurn goes ks t u → 0 < k → goes k → Has k t → In k ks
turn_all {goes} {ks} {t} {u} k r p g h = pick (in? k ks)
  where
    pick : Dec (In k ks) → In k ks
    pick (yes i) = i
    pick (no f) = absurd (turn_ends k r g ((undos_left k (turn_undos r) p).1 (h, f)))

-- no more undos than keys
pub turn_few : {goes : Key → Type 0} {ks : List Key} {t u : Term} → InTurn goes ks t u → length ks ≤ distinct (keys t)
turn_few r = omega (arith, undos_distinct (turn_undos r))

-- one key undone, and the rest
abbrev pub onward : Term → (Term → List Key × Term) → List Key → List Key × Term
onward t f [] = ([], t)
onward t f (k ∷ l) = (k ∷ (f (clear k t)).0, (f (clear k t)).1)

module _ (goes : Key → Type 0) (goes? : (k : Key) → Dec (goes k)) where
  -- the keys that go and whose undo is allowed
  unfoldable pub ready : Term → List Key
  ready t = pass (λ k. goes k × Undoable t k) (λ k. both (goes? k) (undo? t k)) (keys t)

  -- they are listed, ascending
  pub ready_listed : (t : Term) → Lists (λ k. goes k × Undoable t k) (ready t)
  unfolding ready
  ready_listed t = lists_some (λ k. goes k × Undoable t k) (λ k. both (goes? k) (undo? t k)) (keys t) (λ k h w. has_in k t h (present w.1.2))

  -- f times the first of them undone
  unfoldable pub turn : ℕ → Term → List Key × Term
  turn zero t = ([], t)
  turn (suc f) t = onward t (turn f) (ready t)

  -- where all have gone it is empty, and else the next key stands first
  none_ready : (t : Term) → ((k : Key) → goes k → Fsh k t) → ready t ≡ []
  none_ready t f = pick (ready t) (ready_listed t)
    where
      pick : (l : List Key) → Lists (λ k. goes k × Undoable t k) l → l ≡ []
      pick [] o = refl
      pick (k ∷ l) o = let w = ((o.1 k).0 (inl refl)).1 in absurd (f k w.0 (present w.1.2))

  first_ready : (t : Term) (k : Key) → Next goes t k → (l : List Key) × (ready t ≡ k ∷ l)
  first_ready t k n = pick (ready t) (ready_listed t)
    where
      pick : (l : List Key) → Lists (λ k. goes k × Undoable t k) l → (x : List Key) × (l ≡ k ∷ x)
      pick [] o = absurd ((o.1 k).1 (key_pos n.allowed.2, (n.still, n.allowed)))
      pick (j ∷ l) o = (l, ap (λ z. z ∷ l) (least ((o.1 k).1 (key_pos n.allowed.2, (n.still, n.allowed)))))
        where
          least : In k (j ∷ l) → j ≡ k
          least (inl e) = sym e
          least (inr i) = let w = ((o.1 j).0 (inl refl)).1 in absurd (omega (arith, above j l o.0.1 k i, n.least j w.0 w.1))

  -- whatever is undone in turn is the run computed
  pub turn_only : (f : ℕ) {ks : List Key} {t u : Term} → InTurn goes ks t u → length ks ≤ f → turn f t ≡ (ks, u)
  unfolding turn
  turn_only zero (InTurn.all_gone g) h = refl
  turn_only zero (InTurn.then n d r) h = absurd (omega arith)
  turn_only (suc f) (InTurn.all_gone {t = t} g) h = rw (none_ready t g)
  turn_only (suc f) (InTurn.then {t = t} {k = k} n d r) h = rw ((first_ready t k n).1, undo_clears d, turn_only f r (omega arith))
