-- `list` meets its contract: the keys are put in a set, ranked, settled, counted and written.
use native.Mathlib.Omega.{arith}
use Rattle.keys.proofs.Marks.{holds_none}
use Rattle.noting.specs.Node.{noted_keys, noted_lasts}
use Rattle.settle.proofs.Groups.{few_ranks}
use Rattle.undos.proofs.Listings.{no_counts, among_in, ranks_count, few_keys, lines_short, lines_written}
use Rattle.undos.proofs.listing.list.Goals as goal

pub mark_all-total-requires : goal.mark_all-total-requires
mark_all-total-requires c = rw c.new-marks.ensures holds_none

pub of-ranking-requires : goal.of-ranking-requires
of-ranking-requires c = ranks_count (noted_keys c.args.notes.now) c.mark_all-total.new.marks.bytes _ c.requires.keys.1 c.mark_all-total.ensures.0 c.mark_all-total.ensures.1

pub settle-requires-clause-lasts : goal.settle-requires-clause-lasts
settle-requires-clause-lasts c = rw c.of-ranking.ensures (c.requires.lasts.0, among_in (noted_keys c.args.notes.now) c.mark_all-total.new.marks.bytes (noted_lasts c.args.notes.now) c.requires.keys.1 c.mark_all-total.ensures.0 c.requires.lasts.1)

pub settle-requires-clause-fresh : goal.settle-requires-clause-fresh
settle-requires-clause-fresh c = no_counts c.of-ranking.result.set.now.bytes 4096 (rw c.of-ranking.ensures (few_ranks c.args.notes.now.keys c.mark_all-total.new.marks.bytes c.args.notes.now.key_count c.requires.keys.0 c.requires.keys.1 c.mark_all-total.ensures.0))

pub count_ready-count-requires : goal.count_ready-count-requires
count_ready-count-requires c = few_keys c.args.notes.now.keys c.args.notes.now.key_count _ c.requires.keys.0 c.mark_all-total.ensures.1

pub returns-then-row-count : goal.returns-then-row-count
returns-then-row-count c = lines_short (noted_keys c.args.notes.now) c.mark_all-total.new.marks.bytes c.args.notes.now.lasts (noted_lasts c.args.notes.now) c.settle.new.states c.settle.new.notes.keys c.mark_all-total.ensures.0 c.requires.keys.1 c.requires.keys.2 c.requires.lasts.1 (rw c.of-ranking.ensures at c.settle.ensures.settled) c.mark_all-total.result c.mark_all-total.ensures.1 c.args.row.now c.count_ready-count.result (c.count_ready-count.ensures c.settle.new.notes.keys) c.if-row-count.true

pub write_ready-requires : goal.write_ready-requires
write_ready-requires c = (few_keys c.args.notes.now.keys c.args.notes.now.key_count _ c.requires.keys.0 c.mark_all-total.ensures.1, omega (arith, c.count_ready-count.ensures c.settle.new.notes.keys, c.if-row-count.false))

pub returns : goal.returns
returns c = lines_written (noted_keys c.args.notes.now) c.mark_all-total.new.marks.bytes c.args.notes.now.lasts (noted_lasts c.args.notes.now) c.settle.new.states c.settle.new.notes.keys c.mark_all-total.ensures.0 c.requires.keys.1 c.requires.keys.2 c.requires.lasts.1 (rw c.of-ranking.ensures at c.settle.ensures.settled) c.mark_all-total.result c.mark_all-total.ensures.1 c.args.row.now c.count_ready-count.result (c.count_ready-count.ensures c.settle.new.notes.keys) c.if-row-count.false c.write_ready.new.row c.write_ready.ensures
