-- `survey_all` meets its contract: a record has few nodes, so the number that the pass finds is exact.
use Rattle.std.proofs.Common.{arith}
use Rattle.reader.proofs.Whole.{slice_bytes}
use Rattle.survey.proofs.Surveys.{counted}
use Rattle.survey.proofs.survey_all.Goals as goal

pub returns : goal.returns
returns c = let a = c.args in counted a.s.now (slice_bytes a.s.now (λ i. omega (arith, c.type_inv.s i))) a.ask _ c.pass_all.ensures
