-- `settle` meets its contract: from each node on the terms that are due are laid, by the laws of Settling.
use mathlib.Core.Path.{refl, ap, ◌∙◌}
use Prim.Native.Nat.{◌-◌}
use native.Mathlib.Omega.{arith}
use Rattle.index.specs.Whole.{number_of}
use Rattle.index.proofs.Settling.{start, onward, all_laid}
use Rattle.index.proofs.Rows.settle.Goals as goal

pub loop-i-init : goal.loop-i-init
loop-i-init c = record { few = c.requires.2.few; args = refl; settling = λ t A N. start t A c.args.n c.args.self.now.forms c.args.self.now.ends c.args.holds.now N }

pub loop-i-preserved : goal.loop-i-preserved
loop-i-preserved c = record {
  few = omega (arith, c.loop-i.invariant.few);
  args = c.loop-i.invariant.args;
  settling = λ t A N. onward t A c.args.n c.loop-i.self.forms c.loop-i.self.ends c.loop-i.holds (c.loop-i.i - 1) c.loop-i.end c.loop-i.held (omega (arith, c.loop-i.invariant.few)) (omega (arith, c.loop-i.invariant.few)) (omega (arith, c.loop-i.invariant.few))
      c.loop-i.i (omega (arith, c.loop-i-test.true)) (c.loop-i.invariant.settling t A N) c.from-second.result c.from-second.ensures _ _ _ _ (record { read = c.with_number-form.ensures; form = c.from.ensures ∙ ap number_of c.settled.ensures; keys = c.holds-held.ensures; ends = c.end-end.ensures });
}

pub returns : goal.returns
returns c = record { settles = record { all = λ t A N. all_laid t A c.args.n c.loop-i.self.forms c.loop-i.self.ends c.loop-i.holds c.loop-i.i (omega (arith, c.loop-i-test.false)) c.loop-i.end c.loop-i.held (c.loop-i.invariant.settling t A N) }; args = c.loop-i.invariant.args }
