-- A term laid out in columns, a row for each prefix that holds a key, under new and small names for the keys.
use Rattle.std.specs.Prelude.{◌≡◌, List, ℕ, ◌≤◌, ◌<◌}
use Rattle.ccsk.specs.Term.{Term}
use Rattle.causes.specs.Entry.{all}
use Rattle.causes.specs.Links.{key_column, renamed}
use Rattle.causes.specs.Columns.{Below, Faithful, Positive, Square}
use Rattle.pairs.specs.Rows.{table}

-- The columns of keys, actions, ends, scopes and keys right above are the entries of t, whose keys f renames to numbers from 1 to below n.
pub record Laid (t : Term) (n : ℕ) (ks acs es ss us : List ℕ) : Type 0 where
  pub name : ℕ → ℕ
  pub root : name 0 ≡ 0
  pub faithful : Faithful name (key_column (all t))
  pub square : Square ks acs es ss us
  pub rows : table 0 ks acs es ss us ≡ renamed name (all t)
  pub keys : Positive ks
  pub keys_below : Below n ks
  pub ups_below : Below n us
  pub some : 0 < n
  pub few : n ≤ 32767
