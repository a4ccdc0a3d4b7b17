-- `enter` meets its contract: each way through the code is one of the three cases.
use Rattle.pairs.specs.Answer.{as_first, as_second, as_third}
use Rattle.pairs.proofs.enter.Goals as goal

pub returns-then-rows-eq0 : goal.returns-then-rows-eq0
returns-then-rows-eq0 c = as_first c.if-rows-eq0.true

pub returns-then-rows-ne0 : goal.returns-then-rows-ne0
returns-then-rows-ne0 c = as_third c.if-rows-eq0.false c.if-rows-ne0.true

pub returns : goal.returns
returns c = as_second c.if-rows-eq0.false c.if-rows-ne0.false
