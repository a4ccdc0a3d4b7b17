-- `push` meets its contract: the two places that are written and the new height are the pushed stack.
use mathlib.Core.Path.{refl}
use native.Mathlib.Omega.{arith}
use lib.ListN.{length-set}
use Rattle.reader.proofs.Stack.{pushed}
use Rattle.filing.proofs.push.Goals as goal

pub returns : goal.returns
returns c = record {
  long = simp length-set;
  high = refl;
  stack = λ u us e. pushed c.args.many c.args.stack.now u us e c.args.value (omega (arith, c.requires.1)) c.requires.1 c.args.children c.requires.2;
}
