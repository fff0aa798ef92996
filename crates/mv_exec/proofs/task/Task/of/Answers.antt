use Rattle.std.proofs.Common.{rules}
use Rattle.mv_exec.proofs.Beginning.{new_task, new_run}
use Rattle.mv_exec.proofs.task.Task.of.Goals as goal

pub returns-clause-task : goal.returns-clause-task
returns-clause-task c = new_task c.args.procedure.now c.fresh_task-task.result c.len-parameters.result c.in_ok-variables.variables.initial c.is_empty-empty.result c.fresh_task-task.ensures (search rules)

pub returns-clause-run : goal.returns-clause-run
returns-clause-run c =
    new_run c.args.procedure.now c.args.call.now c.fresh_task-task.result c.len-parameters.result c.in_ok-variables.variables.initial c.is_empty-empty.result c.fresh_task-task.ensures (search rules) (search rules) c.len-parameters.ensures
