use Rattle.std.proofs.Common.{rules}
use Rattle.mv_exec.proofs.keeping.set_definer.Goals as goal

pub returns-then-variable-len : goal.returns-then-variable-len
returns-then-variable-len c = search rules
