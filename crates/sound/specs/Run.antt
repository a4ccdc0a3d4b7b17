-- Runs of forward steps and of undos.
use Rattle.std.specs.Prelude.{List, [], ◌∷◌}
use Rattle.ccsk.specs.Term.{Term, Label, Key}
use Rattle.ccsk.specs.Step.{Forward, Undo}

-- forward steps, one after the other, from t to u
pub data Run : Term → Term → Type 0 where
  stay : {t : Term} → Run t t
  then : {t u v : Term} {m : Key} {l : Label} → Run t u → Forward u m l v → Run t v

-- undos of the keys ks, one after the other, from t to u
pub data Undos : List Key → Term → Term → Type 0 where
  stay : {t : Term} → Undos [] t t
  then : {ks : List Key} {t u v : Term} {m : Key} {l : Label} → Undo t m l u → Undos ks u v → Undos (m ∷ ks) t v
