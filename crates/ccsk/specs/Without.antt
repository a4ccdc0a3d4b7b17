-- A list with a number taken out. Helpers between crates speak of it; no promise of an operation does.
use Rattle.std.specs.Prelude.{List, [], ◌∷◌, Bool, true, false, ℕ, eqb}

-- a number in front of a list, unless the test holds
abbrev pub skip : Bool → ℕ → List ℕ → List ℕ
skip true a l = l
skip false a l = a ∷ l

-- the list without each m in it
unfoldable pub without : ℕ → List ℕ → List ℕ
without m [] = []
without m (a ∷ l) = skip (eqb m a) a (without m l)
