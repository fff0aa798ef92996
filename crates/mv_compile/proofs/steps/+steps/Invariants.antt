use Rattle.std.proofs.Common.{◌≡◌, ◌<◌, ◌^◌, ◌++◌, drop}
use Rattle.mv_catalog.specs.Statements.{size_of}
use Rattle.mv_graph.specs.Steps.{body_steps}
use Rattle.mv_compile.proofs.steps.+steps.Given as goal

abbrev pub invariant-add_steps-loop-statement : goal.invariant-add_steps-loop-statement
invariant-add_steps-loop-statement l = record {
  steps : l.steps ++ body_steps l.params (drop l.statement-index l.statements) ≡ l.fn.steps ++ body_steps l.params l.statements;
  behind : l.behind ≡ size_of (drop l.statement-index l.statements);
  few : size_of (drop l.statement-index l.statements) < 2 ^ 16;
}
