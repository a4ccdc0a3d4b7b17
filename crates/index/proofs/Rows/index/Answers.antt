-- `index` meets its contract: what is noted is settled, and the row of arguments stays as it was noted.
use Rattle.index.proofs.Rows.index.Goals as goal

pub returns : goal.returns
returns c = let g = c.in_ok-n.ensures in let w = c.settle.ensures.settles.all g.0 c.note_all.new.self.args g.2 in
    (g.0, g.1.reads, record { fits = g.1.fits; count = w.0; lines = rw c.settle.ensures.args w.1 })
