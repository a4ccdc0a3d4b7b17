-- `new` meets its contract: columns of zeros file nothing.
use mathlib.Core.Path.{refl}
use Rattle.filing.proofs.Drawers.{zeros}
use Rattle.filing.proofs.Cabinet.new.Goals as goal

pub returns : goal.returns
returns c = zeros 4096 refl 4097 refl
