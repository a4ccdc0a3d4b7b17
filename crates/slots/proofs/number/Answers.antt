-- `number` meets its contract: the keys are gathered and ranked, and both columns renamed by these ranks.
use native.Mathlib.Omega.{arith}
use borrow.Author.Rules.{rules}
use Rattle.keys.proofs.Marks.{holds_none}
use Rattle.slots.proofs.Slots.{ranks_count, ranks_few, keys_in, numbered}
use Rattle.slots.proofs.number.Goals as goal

pub mark_all-many-requires : goal.mark_all-many-requires
mark_all-many-requires c = rw c.new-marks.ensures holds_none

pub of-ranks-requires : goal.of-ranks-requires
of-ranks-requires c = ranks_count _ c.args.keys.now c.mark_all-many.ensures.0 (λ i. search rules) c.requires.keys _ c.mark_all-many.ensures.1

pub rename-requires : goal.rename-requires
rename-requires c = record { few = rw c.of-ranks.ensures (omega (arith, ranks_few _ c.args.keys.now c.mark_all-many.ensures.0 (λ i. search rules) c.requires.keys, c.requires.few)); keys_in = rw c.of-ranks.ensures (keys_in _ c.args.keys.now c.mark_all-many.ensures.0 (λ i. search rules) c.requires.keys) }

pub rename-requires-2-clause-few : goal.rename-requires-2-clause-few
rename-requires-2-clause-few c = rw c.of-ranks.ensures (omega (arith, ranks_few _ c.args.keys.now c.mark_all-many.ensures.0 (λ i. search rules) c.requires.keys, c.requires.few))

pub overflow_add-result : goal.overflow_add-result
overflow_add-result c = omega (arith, ranks_few _ c.args.keys.now c.mark_all-many.ensures.0 (λ i. search rules) c.requires.keys, c.requires.few, ranks_count _ c.args.keys.now c.mark_all-many.ensures.0 (λ i. search rules) c.requires.keys _ c.mark_all-many.ensures.1)

pub returns : goal.returns
returns c = numbered _ c.args.keys.now c.mark_all-many.ensures.0 (λ i. search rules) c.requires.keys c.args.ups.now _ _ c.mark_all-many.result c.requires (ranks_count _ c.args.keys.now c.mark_all-many.ensures.0 (λ i. search rules) c.requires.keys _ c.mark_all-many.ensures.1) (rw c.of-ranks.ensures at c.rename.ensures) (rw c.of-ranks.ensures at c.rename-2.ensures)
