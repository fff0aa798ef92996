use Rattle.mv_exec.proofs.Fronts.{peeks, none_ahead, params_of}
use Rattle.mv_exec.proofs.running.peek.Goals as goal

pub peek_next-requires-clause-task : goal.peek_next-requires-clause-task
peek_next-requires-clause-task c = c.requires.running.1.whole

pub peek_next-requires-clause-params : goal.peek_next-requires-clause-params
peek_next-requires-clause-params c = params_of c.args.graph.now c.requires.running.0 c.args.task.now c.requires.running.1

pub returns-clause-next : goal.returns-clause-next
returns-clause-next c = peeks c.args.graph.now c.args.task.now c.peek_next.result c.peek_next.ensures

pub returns-clause-ended : goal.returns-clause-ended
returns-clause-ended c = none_ahead c.args.graph.now.procedure c.args.task.now c.peek_next.result c.requires.running.1.whole c.peek_next.ensures
