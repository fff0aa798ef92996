use Rattle.std.proofs.Common.{◌≡◌, ◌++◌, drop}
use Rattle.mv_names.specs.Statements.{statements}
use Rattle.mv_names.proofs.bodies.+statements.Given as goal

abbrev pub invariant-check_statements-loop-statement : goal.invariant-check_statements-loop-statement
invariant-check_statements-loop-statement l = record {
  faults : l.faults ++ statements l.tables (drop l.statement-index l.body) l.fn.scope ≡ l.fn.faults ++ statements l.tables l.body l.fn.scope;
  scope : l.scope ≡ l.fn.scope;
}
