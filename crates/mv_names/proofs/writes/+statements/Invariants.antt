use Rattle.std.proofs.Common.{◌≡◌, ◌++◌, drop}
use Rattle.mv_names.specs.Writes.{all_writes}
use Rattle.mv_names.proofs.writes.+statements.Given as goal

abbrev pub invariant-check_all-loop-statement : goal.invariant-check_all-loop-statement
invariant-check_all-loop-statement l = l.faults ++ all_writes (drop l.statement-index l.body) ≡ l.fn.faults ++ all_writes l.body
