-- `without_name` meets its contract: the words of the name alone are taken out of the names and out of the co-names.
use native.Mathlib.Omega.{arith}
use Rattle.labelset.proofs.Sets.{set-without}
use Rattle.labelset.proofs.Labels.without_name.Goals as goal

pub returns : goal.returns
returns c = set-without c.args.self c.only-m.result c.args.name c.requires c.only-m.ensures (omega arith) (omega arith) (omega arith) (omega arith)
