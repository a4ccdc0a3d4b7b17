-- The keys that filed links lead to, in a lent row.
use Rattle.std.specs.Prelude.{List, ℕ, ◌<◌}
use Rattle.ccsk.specs.Numbers.{Lists}
use Rattle.ccsk.specs.Term.{Key}
use Rattle.operations.specs.Ask.{Filled}
use Rattle.filing.specs.declared.Cabinet.{Cabinet}
use Rattle.filing.specs.Cabinet.{Link}
use Rattle.chains.specs.Reach.{LeadsTo}

-- every link leads to a key
abbrev pub ToKeys : Cabinet → Type 0
ToKeys x = (m n : Key) → Link x m n → 0 < n

-- the keys that a chain of links leads to from m, ascending, at the front of the row
abbrev pub Listed : Cabinet → Key → List ℕ → ℕ → ℕ → List ℕ → Type 0
Listed x m row r n row' = (l : List Key) × Lists (LeadsTo x m) l × Filled l row r n row'
