-- An undo leaves every other key where it stands; so does a run of undos with every key that it does not take back.
use mathlib.Core.Path.{◌≡◌, refl, sym, ap, ◌∙◌}
use mathlib.Core.Logic.{inl, inr, ◌≢◌, ◌↔◌}
use mathlib.Core.Bool.{Bool, true, false, cond}
use mathlib.Core.List.{List}
use Prim.Native.Nat.{zero, suc, ◌-◌, ◌<◌}
use native.Mathlib.Decide.{ℕ_discrete}
use borrow.Author.Tests.{eq-eqb, ne_eqb}
use lib.Dec.{eqb, ltb}
use Rattle.ccsk.specs.Numbers.{In}
use Rattle.ccsk.specs.Term.{Term, Label, Key, Node, nil, pre, cho, par, res, size}
use Rattle.ccsk.specs.Step.{Undo}
use Rattle.ccsk.proofs.Basic.{never}
use Rattle.ccsk.proofs.Clear.{zeroed, clear, undo_clears}
use Rattle.sound.specs.Run.{Undos}
use Rattle.operations.specs.Runs.{HoldsAt}

size_clear : (m : Key) (t : Term) → size (clear m t) ≡ size t
unfolding size clear
size_clear m nil = refl
size_clear m (pre a k t) = ap suc (size_clear m t)
size_clear m (cho t u) = rw (size_clear m t, size_clear m u)
size_clear m (par t u) = rw (size_clear m t, size_clear m u)
size_clear m (res a t) = ap suc (size_clear m t)

-- k is the number afterwards exactly if it was before
kept : (k m j : Key) → 0 < k → k ≢ m → (k ≡ j) ↔ (k ≡ zeroed (eqb m j) j)
kept k m j p f = pick (ℕ_discrete m j)
  where
    pick : Dec (m ≡ j) → (k ≡ j) ↔ (k ≡ zeroed (eqb m j) j)
    pick (yes e) = rw (eq-eqb m j e) ((λ z. absurd (f (z ∙ sym e))), never p)
    pick (no e) = rw (ne_eqb m j e) ((λ z. z), λ z. z)

either_side : (b : Bool) {A B A' B' : Type 0} → A ↔ A' → B ↔ B' → cond b A B ↔ cond b A' B'
either_side true l r = l
either_side false l r = r

holds_clear : (k m : Key) (p : Node) (t : Term) → 0 < k → k ≢ m → HoldsAt k p t ↔ HoldsAt k p (clear m t)
unfolding clear
holds_clear k m p nil h f = ((λ i. i), λ i. i)
holds_clear k m zero (pre a j t) h f = kept k m j h f
holds_clear k m (suc p) (pre a j t) h f = holds_clear k m p t h f
holds_clear k m zero (cho t u) h f = ((λ i. i), λ i. i)
holds_clear k m (suc p) (cho t u) h f = rw (size_clear m t) (either_side (ltb p (size t)) (holds_clear k m p t h f) (holds_clear k m (p - size t) u h f))
holds_clear k m zero (par t u) h f = ((λ i. i), λ i. i)
holds_clear k m (suc p) (par t u) h f = rw (size_clear m t) (either_side (ltb p (size t)) (holds_clear k m p t h f) (holds_clear k m (p - size t) u h f))
holds_clear k m zero (res a t) h f = ((λ i. i), λ i. i)
holds_clear k m (suc p) (res a t) h f = holds_clear k m p t h f

-- an undo leaves every other key where it stands
pub undo_keeps_places : {t u : Term} {m : Key} {l : Label} (k : Key) (p : Node) → Undo t m l u → 0 < k → k ≢ m → HoldsAt k p t ↔ HoldsAt k p u
undo_keeps_places {t} {m = m} k p d h f = rw (undo_clears d) at (holds_clear k m p t h f)

-- and so does a run of undos
pub undos_keep_places : {ks : List Key} {t u : Term} (k : Key) (p : Node) → Undos ks t u → 0 < k → ¬ In k ks → HoldsAt k p t ↔ HoldsAt k p u
undos_keep_places k p Undos.stay h f = ((λ i. i), λ i. i)
undos_keep_places k p (Undos.then d r) h f = let a = undo_keeps_places k p d h (λ e. f (inl e)) in let b = undos_keep_places k p r h (λ i. f (inr i)) in
    ((λ i. b.0 (a.0 i)), λ i. a.1 (b.1 i))
