use Rattle.std.proofs.Common.{◌∙◌, ◌-◌, ◌++◌, ap, arith}
use Rattle.std.proofs.lemmas.Result.{on_ok_weaker}
use Rattle.mv_catalog.specs.Statements.{size}
use Rattle.mv_graph.specs.Steps.{steps_of}
use Rattle.mv_compile.proofs.Stepped.{own_first, more_steps}
use Rattle.mv_compile.proofs.steps.+steps.Goals as goal

pub add_step-returns : goal.add_step-returns
add_step-returns t c =
    on_ok_weaker c.add_held.result (λ h.
    own_first c.args.params c.args.steps.now c.push.new.self c.add_held.new.steps c.in_ok-own_step.field-0 c.args.statement.now c.args.behind
    c.in_ok-own_step.ensures c.in_ok-push.ensures.ok h) c.add_held.ensures

pub add_steps-loop-statement-preserved : goal.add_steps-loop-statement-preserved
add_steps-loop-statement-preserved t c =
    let left = c.loop-statement.behind - c.size_of-behind.result in
    let is = c.in_ok-add_step.ensures ∙ ap (λ s. c.loop-statement.steps ++ steps_of c.args.params s left) c.statement-item.is in
    let more = more_steps c.args.params c.loop-statement.steps c.add_step.new.steps c.args.statements.now c.loop-statement.statement-index c.statement-item.result c.loop-statement.behind c.size_of-behind.result
    c.loop-statement-test.true (c.size_of-behind.ensures ∙ ap size c.statement-item.is) is c.loop-statement.invariant.behind in
    record {
      steps = more.steps ∙ c.loop-statement.invariant.steps;
      behind = more.behind;
      few = omega (arith, more.fewer, c.loop-statement.invariant.few);
    }
