-- What is shown of a record: its nodes in preorder, and where a cursor stands after so many steps (01, The record).
use Rattle.std.specs.Prelude.{◌≡◌, List, [], ℕ, ◌+◌, ◌≤◌, take, drop, Option}
use Rattle.ccsk.specs.Term.{Term, size}
use Rattle.format.specs.Read.{Opened, refused, opened, decode}
use Rattle.format.specs.Preorder as term
use Rattle.cursor.specs.declared.Cursor.{Cursor}
use Rattle.cursor.specs.declared.Shown.{Shown}
use Rattle.cursor.specs.At.{CursorAt, Bears, showing}

-- the nodes of a record in preorder; none of bytes that are refused
abbrev pub nodes : Opened → List term.Shown
nodes (refused c) = []
nodes (opened t) = term.preorder 1 t

-- Of node n that node is shown, and past the last none (01, The record).
abbrev pub NodeShown : List ℕ → ℕ → Option Shown → Type 0
NodeShown s n r = showing s r ≡ take 1 (drop n (nodes (decode s)))

-- After k steps from node n the cursor stands at node n + k, or past the last; a refused cursor stays.
pub record GoesOn (s : List ℕ) (c : Cursor) (k : ℕ) (r : Cursor) : Type 0 where
  pub on : (t : Term) (n : ℕ) → CursorAt s t n c → n + k ≤ size t → CursorAt s t (n + k) r
  pub ends : (t : Term) (n : ℕ) → CursorAt s t n c → size t ≤ n + k → CursorAt s t (size t) r
  pub refused : (j : ℕ) → Bears j c → r ≡ c
