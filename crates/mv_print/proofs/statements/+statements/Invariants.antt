use Rattle.std.proofs.Common.{◌≡◌, map, drop}
use Rattle.mv_ast.specs.Limits.{together}
use Rattle.mv_print.specs.Printing.{written, statement_pieces}
use Rattle.mv_print.proofs.statements.+statements.Given as goal

abbrev pub invariant-write_statements-loop-statement : goal.invariant-write_statements-loop-statement
invariant-write_statements-loop-statement l = written l.text (together (map statement_pieces (drop l.statement-index l.statements))) ≡ written l.fn.text (together (map statement_pieces l.statements))
