-- What it takes to lay out the term at a place of a record, and what that leaves behind.
use Rattle.std.specs.Prelude.{◌≡◌, ◌≢◌, List, ◌∷◌, ℕ, ◌+◌, ◌≤◌, ◌<◌, ◌%◌, length, take, get_or}
use Rattle.ccsk.specs.Term.{Term, Label, Key, Node, size}
use Rattle.format.specs.Limits.{node_limit}
use Rattle.format.specs.Encode.{encode, InRange}
use Rattle.format.specs.Flat.{Due}
use Rattle.causes.specs.Entry.{Entry, Scopes, marked, entries, all}
use Rattle.reader.specs.declared.Kind.{Kind}
use Rattle.reader.specs.Kind.{body_of}
use Rattle.keys.specs.Gather.{RecordOf}
use Rattle.lay.specs.declared.Place.{Place}
use Rattle.lay.specs.declared.Sheet.{Sheet}
use Rattle.lay.specs.Sheet.{column, Rows}

-- the place of the child of a node of this kind
abbrev pub child : Place → Kind → Place
child p k = record { at = p.at + (1 + body_of k); node = p.node + 1; row = p.row }

-- At the place `at` of s stands t, and then ts; its node numbers are 16-bit numbers, and there is a row for each of its keys.
pub record Here (s : List ℕ) (at : ℕ) (node : Node) (row : ℕ) (t : Term) (ts : List Term) : Type 0 where
  pub due : Due s at (t ∷ ts)
  pub range : InRange t
  pub few : node + size t < 65536
  pub room : row + marked t ≤ node_limit

-- a term stands there
abbrev pub Ready : List ℕ → ℕ → Node → ℕ → Type 0
Ready s at node row = (t : Term) × (ts : List Term) × Here s at node row t ts

-- the table of nearest restrictions tells the scope of every action
abbrev pub Tells : List ℕ → Scopes → Type 0
Tells near sc = (l : Label) → l ≤ 255 → l ≢ 128 → sc l ≡ get_or near (l % 128) 0

-- the term t, whose root is node v, is laid out from row i on: what follows it, and its rows
pub record Laid (at : ℕ) (v : Node) (i : ℕ) (x : Sheet) (t : Term) (l : List Entry) (r : Place) (x' : Sheet) : Type 0 where
  pub after : r.at ≡ at + length (encode t)
  pub node : r.node ≡ v + size t
  pub row : r.row ≡ i + marked t
  pub rows : Rows i r.row x x' l

-- whatever term stands there is laid out
abbrev pub Lays : List ℕ → ℕ → Node → ℕ → Key → Sheet → Place → Sheet → Type 0
Lays s at node row up x r x' = (t : Term) (ts : List Term) (sc : Scopes) → Here s at node row t ts → Tells x.nearest sc
    → Laid at node row x t (entries node row up sc t) r x'

-- the first r rows of the columns are the entries of the record's term
pub record AllLaid (t : Term) (r : ℕ) (x : Sheet) : Type 0 where
  pub count : r ≡ length (all t)
  pub few : r ≤ node_limit
  pub keys : take r x.keys ≡ column (λ e. e.key) (all t)
  pub actions : take r x.actions ≡ column (λ e. e.action) (all t)
  pub ends : take r x.ends ≡ column (λ e. e.end) (all t)
  pub scopes : take r x.scopes ≡ column (λ e. e.scope) (all t)
  pub ups : take r x.ups ≡ column (λ e. e.up) (all t)

abbrev pub LaidOut : List ℕ → ℕ → Sheet → Type 0
LaidOut s r x = (t : Term) → RecordOf s t → AllLaid t r x
