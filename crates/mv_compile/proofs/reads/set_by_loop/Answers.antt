use Rattle.std.proofs.Common.{rules}
use Rattle.mv_compile.proofs.reads.set_by_loop.Goals as goal

pub returns : goal.returns
returns c = search rules
