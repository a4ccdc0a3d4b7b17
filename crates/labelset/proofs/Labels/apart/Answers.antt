-- `apart` meets its contract: the words that the sets share are 0 exactly if no label is in both.
use native.Mathlib.Omega.{arith}
use Rattle.labelset.proofs.Sets.{apart_tells}
use Rattle.labelset.proofs.Labels.apart.Goals as goal

pub returns : goal.returns
returns c = apart_tells c.args.self c.args.other (omega arith) (omega arith) (omega arith) (omega arith)
