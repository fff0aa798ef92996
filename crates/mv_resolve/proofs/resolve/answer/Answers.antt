use Rattle.std.proofs.Common.{subst}
use Rattle.mv_names.specs.First.{IsFirst}
use Rattle.mv_resolve.proofs.resolve.answer.Goals as goal

pub returns-in-Some : goal.returns-in-Some
returns-in-Some c = λ script is _. c.refused.ensures script (subst (λ fs. IsFirst fs c.in-Some.fault) is c.in-Some.ensures)
