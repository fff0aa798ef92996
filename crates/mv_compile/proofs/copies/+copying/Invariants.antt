use Rattle.std.proofs.Common.{◌≡◌, take}
use Rattle.mv_compile.proofs.copies.+copying.Given as goal

abbrev pub invariant-copy_statements-loop-statement : goal.invariant-copy_statements-loop-statement
invariant-copy_statements-loop-statement l = l.all ≡ take l.statement-index l.statements
