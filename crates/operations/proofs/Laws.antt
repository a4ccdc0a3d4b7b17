-- What a reader may expect of a step, on bytes: where its key stands, what it writes, which label it answers, and that an undo is one.
use mathlib.Core.Path.{◌≡◌, ap, sym, ◌∙◌}
use mathlib.Core.Logic.{◌↔◌}
use mathlib.Core.List.{List, [], ◌∷◌}
use Prim.Native.Nat.{ℕ, suc, ◌≤◌}
use Rattle.ccsk.specs.Numbers.{In}
use Rattle.ccsk.specs.Term.{Term, Label, Key, Node, Co}
use Rattle.ccsk.specs.Place.{marks}
use Rattle.ccsk.proofs.Clear.{clear, undo_clears}
use Rattle.ccsk.proofs.Place.{action_at, Placed, alone, joined, step_placed, step_marks}
use Rattle.format.specs.Read.{Reads}
use Rattle.format.specs.Encode.{encode, Bytes}
use Rattle.operations.specs.Order.{pair}
use Rattle.operations.specs.Change.{ForwardStep, UndoStep}
use Rattle.operations.specs.Runs.{KeyIn, HoldsAt}
use Rattle.operations.proofs.ChangeOnce.{undo_step_once}
use Rattle.operations.proofs.KeyPlaces.{key_at_places}
use Rattle.operations.proofs.Readable.{reads_one}
use Rattle.operations.proofs.Reversible.{forward_done, forward_readable, undo_done, forward_adds_its_key}

-- the key of an allowed forward step stands nowhere before
pub forward_key_new : {s b : List ℕ} {p q : Node} {m : Key} {l : Label} → Bytes s → m ≤ 65535 → ForwardStep s p q m 0 l b → ¬ KeyIn m s
forward_key_new h k a = (forward_adds_its_key h k a).0

-- and afterwards exactly at the step's places
pub forward_key_at_its_places : {s b : List ℕ} {p q : Node} {m : Key} {l : Label} → Bytes s → m ≤ 65535 → ForwardStep s p q m 0 l b
    → (t : Term) → Reads b t → (x : Node) → HoldsAt m x t ↔ In x (pair p q)
forward_key_at_its_places {b = b} {p = p} {q = q} {m = m} h k a t e x =
    let d = forward_done a in let i : HoldsAt m x d.later ↔ In x (pair p q) = rw d.at at (key_at_places d.step x) in
    rw (reads_one b (forward_readable d h k).1 e) at i

-- it writes its key at its places and changes nothing else
pub forward_writes_its_key : {s b : List ℕ} {p q : Node} {m : Key} {l : Label} → ForwardStep s p q m 0 l b → (t : Term) → Reads s t → b ≡ encode (marks m (pair p q) t)
forward_writes_its_key {s} {p = p} {q = q} {m = m} a t e =
    let d = forward_done a in
    sym d.bytes ∙ ap encode (sym (step_marks d.step) ∙ (ap (λ x. marks m x d.before) d.at ∙ ap (marks m (pair p q)) (reads_one s d.reads e)))

-- an undo makes every m 0 and changes nothing else
pub undo_clears_its_key : {s b : List ℕ} {m : Key} {l : Label} → UndoStep s m 0 l b → (t : Term) → Reads s t → b ≡ encode (clear m t)
undo_clears_its_key {s} {m = m} a t e = let d = undo_done a in sym d.bytes ∙ ap encode (sym (undo_clears d.step) ∙ ap (clear m) (reads_one s d.reads e))

-- the label of one place is its action
pub one_place_label : {s b : List ℕ} {p : Node} {m : Key} {l : Label} → ForwardStep s p 0 m 0 l b → (t : Term) → Reads s t → l ≡ action_at p t
one_place_label {s} {p = p} {l = l} a t e = let d = forward_done a in rw (← reads_one s d.reads e) (pick d.before (rw d.at at (step_placed d.step)))
  where
    pick : (u : Term) → Placed u l (p ∷ []) → l ≡ action_at p u
    pick u (alone p i) = sym i

-- two places step together only with complementary actions, and the label is tau
pub two_places_label : {s b : List ℕ} {p q : Node} {m : Key} {l : Label} → ForwardStep s p (suc q) m 0 l b → (t : Term) → Reads s t → (l ≡ 0) × Co (action_at p t) (action_at (suc q) t)
two_places_label {s} {p = p} {q = q} {l = l} a t e = let d = forward_done a in rw (← reads_one s d.reads e) (pick d.before (rw d.at at (step_placed d.step)))
  where
    pick : (u : Term) → Placed u l (p ∷ (suc q ∷ [])) → (l ≡ 0) × Co (action_at p u) (action_at (suc q) u)
    pick u (joined p q o z c) = (z, c)

-- at most one undo is allowed for a key
pub one_undo_a_key : {s b b' : List ℕ} {m : Key} {l l' : Label} → UndoStep s m 0 l b → UndoStep s m 0 l' b' → (l ≡ l') × (b ≡ b')
one_undo_a_key x y = let e = undo_step_once x y in (e.1, e.2)
