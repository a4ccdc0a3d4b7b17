-- `lay_all` meets its contract: the pass from the start of the record, with no restriction open.
use lib.ListN.{get_or-replicate}
use Rattle.lay.proofs.Whole.{ready_start, laid_out}
use Rattle.lay.proofs.Sheet.lay_all.Goals as goal

pub lay-requires : goal.lay-requires
lay-requires c = ready_start c.args.s.now c.requires

pub returns : goal.returns
returns c = laid_out c.args.s.now _ c.lay.new.place c.lay.new.self (λ k h. get_or-replicate 128 k 0 0 h) c.lay.ensures
