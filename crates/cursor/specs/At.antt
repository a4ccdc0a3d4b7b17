-- What the cursor's three functions promise, for a cursor that stands at a node of the record, or bears a refusal.
-- Of a cursor that was made in any other way, or for other bytes, only this is promised: nothing is read out of range.
use Rattle.std.specs.Prelude.{◌≡◌, List, [], ◌∷◌, ℕ, suc, ◌+◌, ◌≤◌, ◌<◌, take, drop, Option, None, Some}
use Rattle.ccsk.specs.Term.{Term, size}
use Rattle.format.specs.Limits.{node_limit, depth_limit}
use Rattle.format.specs.Read.{Reads, Refuses}
use Rattle.format.specs.Preorder as term
use Rattle.reader.specs.Head.{NodeAt}
use Rattle.reader.specs.Kind.{byte_of}
use Rattle.reader.specs.declared.Head.{Head}
use Rattle.cursor.specs.declared.Cursor.{Cursor}
use Rattle.cursor.specs.declared.Shown.{Shown}
use Rattle.cursor.specs.Ahead.{Due, Ahead}

-- The cursor stands at node n of the record s of the term t; at n = size t it is past the last.
pub record CursorAt (s : List ℕ) (t : Term) (n : ℕ) (c : Cursor) : Type 0 where
  pub reads : Reads s t
  pub limit : size t ≤ node_limit
  pub within : n ≤ size t
  pub fine : c.refusal ≡ None
  pub number : c.node.0 ≡ n
  pub waiting : Due
  pub ahead : Ahead s c.at c.due c.many (drop n (term.preorder 1 t)) waiting

-- the number of the refusal that a cursor bears; 0 where it bears none
abbrev pub borne : Option ℕ → ℕ
borne None = 0
borne (Some c) = c

-- The cursor bears the refusal k.
pub record Bears (k : ℕ) (c : Cursor) : Type 0 where
  pub number : borne c.refusal ≡ k
  pub none : c.many ≡ 0

-- Opening reads the whole record.
pub data Opens (s : List ℕ) (c : Cursor) : Type 0 where
  refused : {k : ℕ} → Refuses s k → Bears k c → Opens s c
  standing : {t : Term} → CursorAt s t 0 c → Opens s c

-- what is shown, as a list of at most one node
abbrev pub showing : List ℕ → Option Shown → List term.Shown
showing s None = []
showing s (Some n) = term.shown (byte_of n.kind) (take n.length (drop n.body s)) n.depth ∷ []

-- At node n it shows element n of the nodes in preorder, past the last none; a refused cursor shows none.
pub record Shows (s : List ℕ) (c : Cursor) (r : Option Shown) : Type 0 where
  pub node : (t : Term) (n : ℕ) → CursorAt s t n c → showing s r ≡ take 1 (drop n (term.preorder 1 t))
  pub refused : (k : ℕ) → Bears k c → showing s r ≡ []

-- From node n it goes to node n + 1, and past the last it stays; a refused cursor stays.
pub record Goes (s : List ℕ) (c r : Cursor) : Type 0 where
  pub on : (t : Term) (n : ℕ) → CursorAt s t n c → n < size t → CursorAt s t (suc n) r
  pub stays : (t : Term) (n : ℕ) → CursorAt s t n c → size t ≤ n → r ≡ c
  pub refused : (k : ℕ) → Bears k c → r ≡ c

-- No cursor that stands before a node is like this one.
abbrev pub Idle : List ℕ → Cursor → Type 0
Idle s c = (t : Term) (n : ℕ) → CursorAt s t n c → size t ≤ n

-- A good node stands where the cursor says, and the cursor's numbers are in range.
pub record Ready (s : List ℕ) (c : Cursor) (kind children next : ℕ) : Type 0 where
  pub head : NodeAt s c.at kind children next
  pub some : 0 < c.many
  pub few : c.many ≤ depth_limit
  pub number : c.node.0 < node_limit

-- what `due_at` answers
abbrev pub DueAt : List ℕ → Cursor → Option Head → Type 0
DueAt s c None = Idle s c
DueAt s c (Some h) = Ready s c (byte_of h.kind) h.children h.next

-- what `stand` makes of the cursor c: the same with no refusal, at the next node, with so many nodes due
pub record Made (c : Cursor) (at many : ℕ) (r : Cursor) : Type 0 where
  pub fine : r.refusal ≡ None
  pub place : r.at ≡ at
  pub node : r.node.0 ≡ c.node.0 + 1
  pub stack : r.due ≡ c.due
  pub height : r.many ≡ many
