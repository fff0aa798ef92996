use Rattle.std.proofs.Common.{refl}
use Rattle.mv_exec.proofs.add.end_or_trim.Goals as goal

pub returns-then-ends-clause-ends : goal.returns-then-ends-clause-ends
returns-then-ends-clause-ends c = λ _. refl
