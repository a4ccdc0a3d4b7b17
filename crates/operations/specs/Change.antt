-- The operations that change a record: forward step, undo, blank form. One constructor for each cause, in the order of the refusal numbers.
-- After the input stand the refusal number, the label or count, and the record's bytes afterwards.
use Rattle.std.specs.Prelude.{◌≡◌, List, ℕ, ◌<◌}
use Rattle.ccsk.specs.Numbers.{distinct}
use Rattle.ccsk.specs.Term.{Term, Label, Key, Node, Has, Fsh, keys, blank}
use Rattle.ccsk.specs.Step.{Undo, Undoable}
use Rattle.ccsk.specs.Place.{ForwardAt}
use Rattle.format.specs.Read.{Reads, Refuses}
use Rattle.format.specs.Encode.{encode}
use Rattle.operations.specs.Order.{pair, ArePlaces}

-- Forward step at (p, q) with the key m (01, Operations: forward step).
pub data ForwardStep (s : List ℕ) (p q : Node) (m : Key) : ℕ → Label → List ℕ → Type 0 where
  unreadable : {c : ℕ} → Refuses s c → ForwardStep s p q m c 0 s
  key_zero : {t : Term} → Reads s t → m ≡ 0 → ForwardStep s p q m 3 0 s
  no_places : {t : Term} → Reads s t → 0 < m → ¬ ArePlaces t p q → ForwardStep s p q m 4 0 s
  key_stands : {t : Term} → Reads s t → 0 < m → ArePlaces t p q → Has m t → ForwardStep s p q m 5 0 s
  not_derived : {t : Term} → Reads s t → 0 < m → ArePlaces t p q → Fsh m t → ¬ ForwardAt t m (pair p q) → ForwardStep s p q m 6 0 s
  done : {t : Term} → Reads s t → (w : ForwardAt t m (pair p q)) → ForwardStep s p q m 0 w.0 (encode w.1)

-- Undo of the key m (01, Operations: undo).
pub data UndoStep (s : List ℕ) (m : Key) : ℕ → Label → List ℕ → Type 0 where
  unreadable : {c : ℕ} → Refuses s c → UndoStep s m c 0 s
  key_zero : {t : Term} → Reads s t → m ≡ 0 → UndoStep s m 3 0 s
  key_absent : {t : Term} → Reads s t → 0 < m → Fsh m t → UndoStep s m 7 0 s
  not_derived : {t : Term} → Reads s t → 0 < m → Has m t → ¬ Undoable t m → UndoStep s m 8 0 s
  done : {t u : Term} {l : Label} → Reads s t → Undo t m l u → UndoStep s m 0 l (encode u)

-- Blank form: every key becomes 0; the answer is the number of distinct keys removed (01, Operations: blank form).
pub data BlankForm (s : List ℕ) : ℕ → ℕ → List ℕ → Type 0 where
  unreadable : {c : ℕ} → Refuses s c → BlankForm s c 0 s
  done : {t : Term} → Reads s t → BlankForm s 0 (distinct (keys t)) (encode (blank t))
