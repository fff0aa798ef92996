use Rattle.std.proofs.Common.{ap, ◌∙◌}
use Rattle.mv_log.specs.Logged.{Logged}
use Rattle.mv_exec.proofs.Fronts.{begins_on, restarted}
use Rattle.mv_exec.proofs.Logs.{empty_rests}
use Rattle.mv_exec.proofs.task.Task.restart.Goals as goal

pub returns-clause-call : goal.returns-clause-call
returns-clause-call c = λ graph call is.
    restarted graph call c.args.self.now c.clear.new.self _ (ap (λ (l : Logged). l.records) c.clear.ensures) (empty_rests c.clear.new.self c.clear.ensures) (c.begin_again.ensures.back is.whole.some) is

pub returns-clause-begins : goal.returns-clause-begins
returns-clause-begins c = λ graph call db is. begins_on graph call _ (returns-clause-call c graph call is) (ap (λ (l : Logged). l.records) (c.begin_again.ensures.log ∙ c.clear.ensures)) db

pub returns-clause-running : goal.returns-clause-running
returns-clause-running c = λ graph db is. (is.0, returns-clause-begins c graph is.0 db is.1)
