-- A list of pairs as two columns.
use Rattle.std.specs.Prelude.{List, ℕ, map}
use Rattle.cycles.specs.declared.Pair.{Pair}

abbrev pub firsts : List Pair → List ℕ
firsts l = map (λ p. p.first) l

abbrev pub seconds : List Pair → List ℕ
seconds l = map (λ p. p.second) l
