use Rattle.std.proofs.Common.{◌≡◌, ◌+◌, drop, map}
use Rattle.mv_catalog.specs.Statements.{size, total_size}
use Rattle.mv_catalog.proofs.sizes.+sizing.Given as goal

abbrev pub invariant-size_of_all-loop-statement : goal.invariant-size_of_all-loop-statement
invariant-size_of_all-loop-statement l = l.all + total_size (map size (drop l.statement-index l.statements)) ≡ total_size (map size l.statements)
