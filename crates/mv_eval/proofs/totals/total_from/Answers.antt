use Rattle.std.proofs.Common.{rules}
use Rattle.mv_eval.proofs.totals.total_from.Goals as goal

pub returns-then-n-ltminus9223372036854775808 : goal.returns-then-n-ltminus9223372036854775808
returns-then-n-ltminus9223372036854775808 c = search rules
