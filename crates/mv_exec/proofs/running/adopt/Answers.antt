use Rattle.std.proofs.Common.{ap, ◌∙◌}
use Rattle.mv_log.specs.Logged.{Logged}
use Rattle.mv_exec.specs.Running.{IsSameCall}
use Rattle.mv_exec.proofs.Fronts.{stays, grows, unchanged, adopted, goes_on, params_of}
use Rattle.mv_exec.proofs.Logs.{IsCleaned, cleaned, get_in}
use Rattle.mv_exec.proofs.running.adopt.Goals as goal
use Rattle.mv_exec.proofs.running.adopt.Goals.{In-Ok, After-truncate}

pub adopt_next-requires-clause-task : goal.adopt_next-requires-clause-task
adopt_next-requires-clause-task c = c.requires.running.1.whole

pub adopt_next-requires-clause-params : goal.adopt_next-requires-clause-params
adopt_next-requires-clause-params c = params_of c.args.graph.now c.requires.running.0 c.args.task.now c.requires.running.1

pub adopt_next-requires-clause-rest : goal.adopt_next-requires-clause-rest
adopt_next-requires-clause-rest c = c.requires.running.1.rest

-- Where a record was added

same : (c : In-Ok) → IsSameCall c.args.graph.now c.args.task.now c.adopt_next.new.task
same c call is =
    let given = get_in c.args.task.now.log.past c.args.old c.requires.there in
    let it = c.in-Ok.ensures.added given.0 given.1 in
    grows c.args.graph.now call c.args.task.now c.adopt_next.new.task it.next c.adopt_next.ensures.task it.added c.in-Ok.ensures.rest c.adopt_next.ensures.found is

pub returns-in-Ok-clause-call : goal.returns-in-Ok-clause-call
returns-in-Ok-clause-call c = same c

pub returns-in-Ok-clause-running : goal.returns-in-Ok-clause-running
returns-in-Ok-clause-running c = (c.requires.running.0, same c c.requires.running.0 c.requires.running.1)

pub returns-in-Ok-clause-adopted : goal.returns-in-Ok-clause-adopted
returns-in-Ok-clause-adopted c = λ given there. adopted c.args.graph.now c.args.task.now c.adopt_next.new.task given (c.in-Ok.ensures.added given there) c.in-Ok.ensures.executed

pub returns-in-Ok-clause-goes_on : goal.returns-in-Ok-clause-goes_on
returns-in-Ok-clause-goes_on c = λ given there. goes_on c.args.graph.now c.args.task.now c.adopt_next.new.task given (returns-in-Ok-clause-adopted c given there)

-- Where none was

is : (c : After-truncate) → IsCleaned c.args.graph.now.procedure c.args.task.now (let t = c.adopt_next.new.task in record t { log = c.truncate.new.self })
is c =
    cleaned c.args.graph.now.procedure c.args.task.now c.adopt_next.new.task c.truncate.new.self c.len-number.result c.adopt_next.ensures.task c.in-Err.ensures.err c.truncate.ensures c.len-number.ensures

stopped : (c : After-truncate) → IsSameCall c.args.graph.now c.args.task.now (let t = c.adopt_next.new.task in record t { log = c.truncate.new.self })
stopped c call it = stays c.args.graph.now call c.args.task.now _ (is c).whole (is c).before (is c).rest c.adopt_next.ensures.found it

pub returns-in-Err-clause-call : goal.returns-in-Err-clause-call
returns-in-Err-clause-call c = stopped c

pub returns-in-Err-clause-running : goal.returns-in-Err-clause-running
returns-in-Err-clause-running c = (c.requires.running.0, stopped c c.requires.running.0 c.requires.running.1)

pub returns-in-Err-clause-err : goal.returns-in-Err-clause-err
returns-in-Err-clause-err c = unchanged c.args.graph.now.procedure c.args.task.now _ c.requires.running.1.whole (is c).whole (is c).before

pub returns-in-Err-clause-past : goal.returns-in-Err-clause-past
returns-in-Err-clause-past c = ap (λ (l : Logged). l.past) c.truncate.ensures ∙ c.adopt_next.ensures.past
