-- `judge` meets its contract: the rows of the record are the columns of its term.
use Rattle.judge.proofs.Sheets.{listed, numberable, laid, slotted}
use Rattle.judge.proofs.judge.Goals as goal

pub number-many-requires : goal.number-many-requires
number-many-requires c = numberable c.requires.0 _ _ _ _ _ (listed c.requires.0 c.lay_all-rows.result c.lay_all-rows.new.self (c.lay_all-rows.ensures c.requires.0 c.requires.1))

pub decide-requires : goal.decide-requires
decide-requires c = slotted c.requires.0 _ _ _ _ _ (listed c.requires.0 c.lay_all-rows.result c.lay_all-rows.new.self (c.lay_all-rows.ensures c.requires.0 c.requires.1)) _ _ c.number-many.result c.number-many.ensures c.requires.2

pub returns : goal.returns
returns c = λ t w b. c.decide.ensures t (laid t _ _ _ _ _ (listed t c.lay_all-rows.result c.lay_all-rows.new.self (c.lay_all-rows.ensures t w)) _ _ c.number-many.result c.number-many.ensures) b
