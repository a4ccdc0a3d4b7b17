-- Runs of allowed steps on a record's bytes, the keys that stand in a record, and where.
use Rattle.std.specs.Prelude.{◌≡◌, cond, List, [], ◌∷◌, ℕ, zero, suc, ◌-◌, ◌≤◌, ◌<◌, ltb}
use Rattle.ccsk.specs.Term.{Term, Label, Key, Node, nil, pre, cho, par, res, Has, size}
use Rattle.format.specs.Read.{Reads}
use Rattle.operations.specs.Change.{ForwardStep, UndoStep}

-- allowed forward steps, one after the other, from the bytes s to the bytes b; each key is a 16-bit number
pub data ForwardRun : List ℕ → List ℕ → Type 0 where
  stay : {s : List ℕ} → ForwardRun s s
  then : {s b c : List ℕ} {p q : Node} {m : Key} {l : Label} → ForwardRun s b → m ≤ 65535 → ForwardStep b p q m 0 l c → ForwardRun s c

-- allowed undos of the keys ks, one after the other, from the bytes s to the bytes b
pub data UndoRun : List Key → List ℕ → List ℕ → Type 0 where
  stay : {s : List ℕ} → UndoRun [] s s
  then : {ks : List Key} {s b c : List ℕ} {m : Key} {l : Label} → UndoStep s m 0 l b → UndoRun ks b c → UndoRun (m ∷ ks) s c

-- no undo is allowed
abbrev pub NoUndo : List ℕ → Type 0
NoUndo s = (m : Key) (l : Label) (b : List ℕ) → ¬ UndoStep s m 0 l b

-- k is a key of the record
abbrev pub KeyIn : Key → List ℕ → Type 0
KeyIn k s = (t : Term) × Reads s t × (0 < k) × Has k t

-- node p is a prefix that holds m
abbrev pub HoldsAt : Key → Node → Term → Type 0
HoldsAt m p nil = ⊥
HoldsAt m zero (pre a k t) = m ≡ k
HoldsAt m (suc p) (pre a k t) = HoldsAt m p t
HoldsAt m zero (cho t u) = ⊥
HoldsAt m (suc p) (cho t u) = cond (ltb p (size t)) (HoldsAt m p t) (HoldsAt m (p - size t) u)
HoldsAt m zero (par t u) = ⊥
HoldsAt m (suc p) (par t u) = cond (ltb p (size t)) (HoldsAt m p t) (HoldsAt m (p - size t) u)
HoldsAt m zero (res a t) = ⊥
HoldsAt m (suc p) (res a t) = HoldsAt m p t
