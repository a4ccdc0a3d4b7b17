-- The prefixes of a term that hold a key, in preorder, each with what the conditions of 01 (Soundness) ask about it.
use Rattle.std.specs.Prelude.{List, [], ◌∷◌, ◌++◌, Bool, true, false, ℕ, zero, suc, ◌+◌, eqb}
use Rattle.ccsk.specs.Term.{Term, Name, Label, Key, Node, nil, pre, cho, par, res, size}
use Rattle.ccsk.specs.Decide.{on?}

-- A prefix that holds a key: the key, the action that it marks, its row in the list of all such prefixes, and the row that follows
-- all below it; its scope, one more than the node number of the nearest restriction above that stops the action, 0 if there is none;
-- and the key that the nearest such prefix above it holds, 0 if there is none.
pub record Entry : Type 0 where
  pub key : Key
  pub action : Label
  pub row : ℕ
  pub end : ℕ
  pub scope : ℕ
  pub up : Key

-- for each label the scope that a prefix with that action has here
abbrev pub Scopes : Type 0
Scopes = Label → ℕ

abbrev pub nearest : {A : Type 0} → Dec A → ℕ → ℕ → ℕ
nearest (yes a) n m = n
nearest (no a) n m = m

-- the scopes below a restriction on a at node n
unfoldable pub under : Name → Node → Scopes → Scopes
under a n s l = nearest (on? a l) (suc n) (s l)

-- no restriction above
abbrev pub open_scopes : Scopes
open_scopes l = 0

-- how many prefixes hold a key
unfoldable pub marked : Term → ℕ
marked nil = 0
marked (pre a zero t) = marked t
marked (pre a (suc k) t) = suc (marked t)
marked (cho t u) = marked t + marked u
marked (par t u) = marked t + marked u
marked (res a t) = marked t

-- The entries of a term whose root is node n, the first in row i, below the key up (0: below none) and the scopes s.
unfoldable pub entries : Node → ℕ → Key → Scopes → Term → List Entry
entries n i up s nil = []
entries n i up s (pre a zero t) = entries (suc n) i up s t
entries n i up s (pre a (suc k) t) =
    record { key = suc k; action = a; row = i; end = suc i + marked t; scope = s a; up = up } ∷ entries (suc n) (suc i) (suc k) s t
entries n i up s (cho t u) = entries (suc n) i up s t ++ entries (suc n + size t) (i + marked t) up s u
entries n i up s (par t u) = entries (suc n) i up s t ++ entries (suc n + size t) (i + marked t) up s u
entries n i up s (res a t) = entries (suc n) i up (under a n s) t

-- all entries of a term
abbrev pub all : Term → List Entry
all t = entries 0 0 0 open_scopes t

-- one entry more in front, if the test holds
abbrev pub keep : Bool → Entry → List Entry → List Entry
keep true e l = e ∷ l
keep false e l = l

-- the entries of the key m
unfoldable pub only : Key → List Entry → List Entry
only m [] = []
only m (e ∷ l) = keep (eqb m e.key) e (only m l)
