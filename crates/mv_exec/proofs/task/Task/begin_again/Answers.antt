use Rattle.mv_exec.proofs.Beginning.{all_fresh}
use Rattle.mv_exec.proofs.task.Task.begin_again.Goals as goal

pub returns-clause-back : goal.returns-clause-back
returns-clause-back c = λ some.
    all_fresh c.args.self.now.parameters c.begin_again.new.self c.args.self.now.variables.initial c.args.self.now.log c.truncate.new.self c.go_back.new.frames c.args.self.now.empty
    c.begin_again.ensures c.truncate.ensures (c.go_back.ensures some)
