use Rattle.std.proofs.Common.{arith}
use Rattle.mv_compile.proofs.compile.slots_of.Goals as goal

pub returns-clause-found : goal.returns-clause-found
returns-clause-found c = omega arith
