-- The operations that only answer. After the input stand the refusal number, the other fields, and where a row is lent the row afterwards.
use Rattle.std.specs.Prelude.{◌≡◌, List, [], ◌++◌, ℕ, ◌<◌, ◌≤◌, length, take, drop}
use Rattle.ccsk.specs.Numbers.{distinct, LeastFree, Lists}
use Rattle.ccsk.specs.Term.{Term, Label, Key, Node, Has, Fsh, keys, size}
use Rattle.ccsk.specs.Step.{Undoable}
use Rattle.sound.specs.Sound.{Verdict}
use Rattle.format.specs.Read.{Reads, Refuses}
use Rattle.format.specs.Preorder.{Shown, preorder}
use Rattle.operations.specs.Order.{FirstFrom, NoFreeStep, WaitsFor}

-- Reading: the number of nodes.
pub data ReadRecord (s : List ℕ) : ℕ → ℕ → Type 0 where
  unreadable : {c : ℕ} → Refuses s c → ReadRecord s c 0
  done : {t : Term} → Reads s t → ReadRecord s 0 (size t)

-- Node n of the walk: refusal, then what is shown, the one node or past the last none (01, The record).
pub data ShownNode (s : List ℕ) (n : Node) : ℕ → List Shown → Type 0 where
  unreadable : {c : ℕ} → Refuses s c → ShownNode s n c []
  done : {t : Term} → Reads s t → ShownNode s n 0 (take 1 (drop n (preorder 1 t)))

-- Number of distinct keys, of any readable record (01, Operations).
pub data KeyCount (s : List ℕ) : ℕ → ℕ → Type 0 where
  unreadable : {c : ℕ} → Refuses s c → KeyCount s c 0
  done : {t : Term} → Reads s t → KeyCount s 0 (distinct (keys t))

-- Least free key (01, Operations).
pub data FreeKey (s : List ℕ) : ℕ → Key → Type 0 where
  unreadable : {c : ℕ} → Refuses s c → FreeKey s c 0
  done : {t : Term} {k : Key} → Reads s t → LeastFree (keys t) k → FreeKey s 0 k

-- First forward step at or after (p, q): refusal, the mark 'found', then p, q and label, all 0 where there is none (01, Operations).
pub data FirstStep (s : List ℕ) (p q : Node) : ℕ → ℕ → Node → Node → Label → Type 0 where
  unreadable : {c : ℕ} → Refuses s c → FirstStep s p q c 0 0 0 0
  none : {t : Term} → Reads s t → NoFreeStep t p q → FirstStep s p q 0 0 0 0 0
  found : {t : Term} {p' q' : Node} {l : Label} → Reads s t → FirstFrom t p q p' q' l → FirstStep s p q 0 1 p' q' l

-- A list goes to the front of a lent row, and what lies past it stays as it was; a row that is too short is refused with 9.
pub data Filled (list row : List ℕ) : ℕ → ℕ → List ℕ → Type 0 where
  short : length row < length list → Filled list row 9 0 row
  filled : length list ≤ length row → Filled list row 0 (length list) (list ++ drop (length list) row)

-- Undo listing: the keys whose undo is allowed, ascending; refusal, count, row (01, Operations).
pub data UndoListing (s row : List ℕ) : ℕ → ℕ → List ℕ → Type 0 where
  unreadable : {c : ℕ} → Refuses s c → UndoListing s row c 0 row
  done : {t : Term} {l row' : List ℕ} {r n : ℕ} → Reads s t → Lists (Undoable t) l → Filled l row r n row' → UndoListing s row r n row'

-- Waiting list of the key m, ascending; refusal, count, row (01, Operations; 02, [5]).
pub data WaitingList (s : List ℕ) (m : Key) (row : List ℕ) : ℕ → ℕ → List ℕ → Type 0 where
  unreadable : {c : ℕ} → Refuses s c → WaitingList s m row c 0 row
  key_zero : {t : Term} → Reads s t → m ≡ 0 → WaitingList s m row 3 0 row
  key_absent : {t : Term} → Reads s t → 0 < m → Fsh m t → WaitingList s m row 7 0 row
  done : {t : Term} {l row' : List ℕ} {r n : ℕ} → Reads s t → 0 < m → Has m t → Lists (WaitsFor t m) l → Filled l row r n row' → WaitingList s m row r n row'

-- Soundness: refusal and verdict (01, Soundness).
pub data Soundness (s : List ℕ) : ℕ → ℕ → Type 0 where
  unreadable : {c : ℕ} → Refuses s c → Soundness s c 0
  done : {t : Term} {v : ℕ} → Reads s t → Verdict t v → Soundness s 0 v
