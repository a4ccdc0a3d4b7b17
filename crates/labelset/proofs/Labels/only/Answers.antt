-- `only` meets its contract: each word is the one of the label.
use mathlib.Core.Path.{refl}
use native.Mathlib.Omega.{arith}
use Rattle.labelset.proofs.Sets.{set_only}
use Rattle.labelset.proofs.Labels.only.Goals as goal

pub returns : goal.returns
returns c = set_only _ c.args.label _ (omega arith) refl c.word_if.ensures c.word_if-2.ensures c.word_if-3.ensures c.word_if-4.ensures
