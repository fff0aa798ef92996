use Rattle.std.proofs.Common.{◌≡◌, drop, map}
use Rattle.mv_ast.specs.Limits.{soonest, together, statement_passes, statement_tokens}
use Rattle.mv_limits.specs.Places.{seek}
use Rattle.mv_limits.proofs.statements.+statements.Given as goal

abbrev pub invariant-in_statements-loop-statement : goal.invariant-in_statements-loop-statement
invariant-in_statements-loop-statement l = record {
  best : soonest l.walk.best (together (map statement_passes (drop l.statement-index l.statements))) ≡ soonest l.fn.walk.best (together (map statement_passes l.statements));
  place : seek l.walk.place (together (map statement_tokens (drop l.statement-index l.statements))) ≡ seek l.fn.walk.place (together (map statement_tokens l.statements));
}
