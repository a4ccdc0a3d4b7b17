-- The columns that a record is laid out in, and the table of nearest restrictions.
use Rattle.std.specs.Prelude.{◌≡◌, List, [], ◌∷◌, ◌++◌, ℕ, ◌%◌, take, set, get_or, replicate}
use Rattle.format.specs.Limits.{node_limit}
use Rattle.causes.specs.Entry.{Entry}
use Rattle.lay.specs.declared.Sheet.{Sheet}

-- nothing is written: 0 in every place of the columns and of the table, as for no key, no scope and nothing right above
pub record Unwritten (x : Sheet) : Type 0 where
  pub keys : x.keys ≡ replicate node_limit 0
  pub actions : x.actions ≡ replicate node_limit 0
  pub ends : x.ends ≡ replicate node_limit 0
  pub scopes : x.scopes ≡ replicate node_limit 0
  pub ups : x.ups ≡ replicate node_limit 0
  pub nearest : x.nearest ≡ replicate 128 0

-- row i is written but for its end: its key, its action with the scope that the table tells, and the key right above it
abbrev pub noted : Sheet → ℕ → ℕ → ℕ → ℕ → Sheet
noted x i k a u = record { keys = set x.keys i k; actions = set x.actions i a; ends = x.ends; scopes = set x.scopes i (get_or x.nearest (a % 128) 0); ups = set x.ups i u; nearest = x.nearest }

-- what the entries hold in one field
unfoldable pub column : (Entry → ℕ) → List Entry → List ℕ
column f [] = []
column f (e ∷ l) = f e ∷ column f l

-- the entries stand in a column from row i up to row j, after what stood before
abbrev pub Filled : (Entry → ℕ) → ℕ → ℕ → List ℕ → List ℕ → List Entry → Type 0
Filled f i j c c' l = take j c' ≡ take i c ++ column f l

-- the entries stand in the rows from i up to j of all five columns, and the table is as it was
pub record Rows (i j : ℕ) (x x' : Sheet) (l : List Entry) : Type 0 where
  pub keys : Filled (λ e. e.key) i j x.keys x'.keys l
  pub actions : Filled (λ e. e.action) i j x.actions x'.actions l
  pub ends : Filled (λ e. e.end) i j x.ends x'.ends l
  pub scopes : Filled (λ e. e.scope) i j x.scopes x'.scopes l
  pub ups : Filled (λ e. e.up) i j x.ups x'.ups l
  pub nearest : x'.nearest ≡ x.nearest
