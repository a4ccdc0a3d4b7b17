-- A sound record whose links are filed, with a key that stands there.
use Rattle.std.specs.Prelude.{true, List, ℕ, ◌<◌}
use Rattle.ccsk.specs.Term.{Key}
use Rattle.operations.specs.Ask.{Soundness}
use Rattle.filing.specs.declared.Cabinet.{Cabinet}
use Rattle.filing.specs.Record.{Stands, AllFiled, FiledUpTo}

pub record Linked (s : List ℕ) (m : Key) (x : Cabinet) (links : ℕ) : Type 0 where
  pub key : 0 < m
  pub sound : Soundness s 0 0
  pub stands : Stands s m true
  pub filed : AllFiled s x
  pub up_to : FiledUpTo x links
