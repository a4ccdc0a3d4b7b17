-- `leave_prefix` meets its contract: none stays, or the prefix itself is pushed.
use native.Mathlib.Omega.{arith}
use Rattle.noting.proofs.Nodes.{over_undone, over_own}
use Rattle.noting.proofs.Notes.leave_prefix.Goals as goal

pub returns-then-own-eq-NOT_DONE : goal.returns-then-own-eq-NOT_DONE
returns-then-own-eq-NOT_DONE c = over_undone c.args.s.now c.args.at c.args.entered c.args.self.now c.key_of-own.result c.key_of-own.ensures c.if-own-eq-NOT_DONE.true

pub returns-then-self-entered : goal.returns-then-self-entered
returns-then-self-entered c = over_own c.args.s.now c.args.at c.args.entered c.args.self.now c.key_of-own.result c.key_of-own.ensures c.slot_of.result c.slot_of.ensures c.if-own-eq-NOT_DONE.false c.if-self-entered.true (omega (arith, c.requires.1))
