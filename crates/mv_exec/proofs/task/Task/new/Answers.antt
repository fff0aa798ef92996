use Rattle.std.proofs.Common.{◌≡◌, [], ap}
use Rattle.mv_eval.specs.declared.state.Env.{Env}
use Rattle.mv_log.specs.Logged.{Logged}
use Rattle.mv_exec.specs.Running.{IsTaskOf}
use Rattle.mv_exec.proofs.Fronts.{begins, begins_on}
use Rattle.mv_exec.proofs.Logs.{empty_rests}
use Rattle.mv_exec.proofs.task.Task.new.Goals as goal
use Rattle.mv_exec.proofs.task.Task.new.Goals.{In_ok-task}

none : (c : In_ok-task) → c.in_ok-task.task.log.records ≡ []
none c = ap (λ (l : Logged). l.records) c.in_ok-task.ensures.log

is : (c : In_ok-task) → IsTaskOf c.args.graph.now c.args.call.now c.in_ok-task.task
is c =
    begins c.args.graph.now c.args.call.now c.in_ok-task.task c.requires.arguments c.in_ok-task.ensures.task c.in_ok-task.ensures.begins (ap (λ (e : Env). e.found) c.in_ok-task.ensures.variables)
    (none c) (empty_rests c.in_ok-task.task.log c.in_ok-task.ensures.log) c.in_ok-task.ensures.run

pub returns-clause-call : goal.returns-clause-call
returns-clause-call c = is c

pub returns-clause-begins : goal.returns-clause-begins
returns-clause-begins c = begins_on c.args.graph.now c.args.call.now c.in_ok-task.task (is c) (none c)

pub returns-clause-running : goal.returns-clause-running
returns-clause-running c = λ db. (c.args.call.now, begins_on c.args.graph.now c.args.call.now c.in_ok-task.task (is c) (none c) db)
