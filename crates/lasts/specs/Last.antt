-- The prefixes of a term that can be the last to have been done: those an undo can begin with.
use Rattle.std.specs.Prelude.{◌≡◌, List, [], ◌∷◌, ◌++◌, Bool, true, false, ℕ, ◌+◌, ◌%◌, eqb, get_or, set, replicate}
use Rattle.ccsk.specs.Term.{Term, Name, Label, Key, Node, nil, pre, cho, par, res, Co, size}
use Rattle.moves.specs.Move.{holds}
use Rattle.lasts.specs.declared.Last.{Last}

-- For each name the scope that a prefix on it has here. A name and its co-name share a slot; the slot of tau is 0, and no restriction names it.
abbrev pub Scopes : Type 0
Scopes = List ℕ

abbrev pub slot : Label → ℕ
slot l = l % 128

abbrev pub scope_of : Scopes → Label → ℕ
scope_of s l = get_or s (slot l) 0

-- the scopes below a restriction on a at node n
abbrev pub enclosed : Name → Node → Scopes → Scopes
enclosed a n s = set s (slot a) (n + 1)

-- no restriction above
abbrev pub open_scopes : Scopes
open_scopes = replicate 128 0

-- A prefix that is not done passes none; one that is done and has a key below passes those below; otherwise it is the last itself.
abbrev pub last_over_prefix : Bool → Bool → Last → List Last → List Last
last_over_prefix true below e x = []
last_over_prefix false true e x = x
last_over_prefix false false e x = e ∷ []

-- A choice with keys on both sides passes none.
abbrev pub last_over_choice : Bool → Bool → List Last → List Last → List Last
last_over_choice true true x y = []
last_over_choice true false x y = x ++ y
last_over_choice false right x y = x ++ y

-- The prefixes that hold a key, have no key below, and have only done prefixes and choices without a second keyed side above them,
-- in a term whose root is node n, below the scopes s.
unfoldable pub lasts : Node → Scopes → Term → List Last
lasts n s nil = []
lasts n s (pre a k t) = last_over_prefix (eqb k 0) (holds t) (record { key = k; action = a; scope = scope_of s a }) (lasts (n + 1) s t)
lasts n s (cho t u) = last_over_choice (holds t) (holds u) (lasts (n + 1) s t) (lasts (n + 1 + size t) s u)
lasts n s (par t u) = lasts (n + 1) s t ++ lasts (n + 1 + size t) s u
lasts n s (res a t) = lasts (n + 1) (enclosed a n s) t

-- all of a term
abbrev pub all_lasts : Term → List Last
all_lasts t = lasts 0 open_scopes t

-- one more in front, if the test holds
abbrev pub keep : Bool → Last → List Last → List Last
keep true e x = e ∷ x
keep false e x = x

-- those that hold the key m
unfoldable pub only : Key → List Last → List Last
only m [] = []
only m (e ∷ x) = keep (eqb m e.key) e (only m x)

-- A key that stands c times, with these of its places last: it may be undone if it stands once, in no scope; or twice, on complementary
-- actions in the same scope.
abbrev pub Ready : ℕ → List Last → Type 0
Ready c [] = ⊥
Ready c (e ∷ []) = (c ≡ 1) × (e.scope ≡ 0)
Ready c (e ∷ (f ∷ [])) = (c ≡ 2) × Co e.action f.action × (e.scope ≡ f.scope)
Ready c (e ∷ (f ∷ (g ∷ x))) = ⊥
