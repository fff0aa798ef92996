use Rattle.std.proofs.Common.{refl, rules, ap, ◌∙◌}
use Rattle.mv_log.specs.Logged.{Logged}
use Rattle.mv_exec.specs.Running.{IsSameCall, IsSameCallOn}
use Rattle.mv_exec.proofs.Fronts.{asked_after, stays, stays_on, grows, unchanged, executed_on, running_on, has_run, small_found, params_of}
use Rattle.mv_exec.proofs.Logs.{IsCleaned, cleaned}
use Rattle.mv_exec.proofs.running.next.Goals as goal
use Rattle.mv_exec.proofs.running.next.Goals.{In-Ok, After-truncate}

pub execute_next-requires : goal.execute_next-requires
execute_next-requires g c = λ k. ((refl, tt), (search rules, ((c.requires.running.1.is.whole), ((params_of c.args.graph.now c.requires.running.0 c.args.task.now c.requires.running.1.is), (search rules, ((c.requires.running.1.is.rest), ((small_found c.args.graph.now c.requires.running.0 c.args.task.now c.requires.sound c.requires.running.1.is), (search rules, (c.requires.running.1.is.keys (g.V.View.sight c.args.view.now).database c.requires.running.1.rest c.requires.database c.requires.running.1.leaves)))))))))

-- Where a record was added

same : (g : _) (c : In-Ok g) → IsSameCall c.args.graph.now c.args.task.now c.execute_next.new.task
same g c call is =
    grows c.args.graph.now call c.args.task.now c.execute_next.new.task c.in-Ok.ensures.executed.next c.execute_next.ensures.task c.in-Ok.ensures.executed.added c.in-Ok.ensures.rest c.execute_next.ensures.found is

goes_on : (g : _) (c : In-Ok g) → IsSameCallOn c.args.graph.now (g.V.View.sight c.args.view.now).database c.args.task.now c.execute_next.new.task
goes_on g c =
    executed_on c.args.graph.now c.args.task.now c.execute_next.new.task (g.V.View.sight c.args.view.now) (g.V.View.sight c.execute_next.new.view) c.requires.database.rising (same g c) c.in-Ok.ensures.executed

pub returns-in-Ok-clause-call : goal.returns-in-Ok-clause-call
returns-in-Ok-clause-call g c = same g c

pub returns-in-Ok-clause-goes_on : goal.returns-in-Ok-clause-goes_on
returns-in-Ok-clause-goes_on g c = goes_on g c

pub returns-in-Ok-clause-running : goal.returns-in-Ok-clause-running
returns-in-Ok-clause-running g c = running_on c.args.graph.now (g.V.View.sight c.args.view.now).database c.args.task.now c.execute_next.new.task (goes_on g c) c.requires.running

pub returns-in-Ok-clause-ran : goal.returns-in-Ok-clause-ran
returns-in-Ok-clause-ran g c = λ live.
    has_run c.args.graph.now c.args.task.now c.execute_next.new.task (g.V.View.sight c.args.view.now) (g.V.View.sight c.execute_next.new.view) c.in-Ok.ensures.executed c.in-Ok.ensures.counted

-- Where none was

is : (g : _) (c : After-truncate g) → IsCleaned c.args.graph.now.procedure c.args.task.now (let t = c.execute_next.new.task in record t { log = c.truncate.new.self })
is g c =
    cleaned c.args.graph.now.procedure c.args.task.now c.execute_next.new.task c.truncate.new.self c.len-number.result c.execute_next.ensures.task c.in-Err.ensures.err c.truncate.ensures c.len-number.ensures

stopped : (g : _) (c : After-truncate g) → IsSameCall c.args.graph.now c.args.task.now (let t = c.execute_next.new.task in record t { log = c.truncate.new.self })
stopped g c call it = stays c.args.graph.now call c.args.task.now _ (is g c).whole (is g c).before (is g c).rest c.execute_next.ensures.found it

stopped_on : (g : _) (c : After-truncate g) → IsSameCallOn c.args.graph.now (g.V.View.sight c.args.view.now).database c.args.task.now (let t = c.execute_next.new.task in record t { log = c.truncate.new.self })
stopped_on g c = stays_on c.args.graph.now (g.V.View.sight c.args.view.now).database c.args.task.now _ (stopped g c) (is g c).before.records

pub returns-in-Err-clause-call : goal.returns-in-Err-clause-call
returns-in-Err-clause-call g c = stopped g c

pub returns-in-Err-clause-goes_on : goal.returns-in-Err-clause-goes_on
returns-in-Err-clause-goes_on g c = stopped_on g c

pub returns-in-Err-clause-running : goal.returns-in-Err-clause-running
returns-in-Err-clause-running g c = running_on c.args.graph.now (g.V.View.sight c.args.view.now).database c.args.task.now _ (stopped_on g c) c.requires.running

pub returns-in-Err-clause-err : goal.returns-in-Err-clause-err
returns-in-Err-clause-err g c = unchanged c.args.graph.now.procedure c.args.task.now _ c.requires.running.1.is.whole (is g c).whole (is g c).before

pub returns-in-Err-clause-tried : goal.returns-in-Err-clause-tried
returns-in-Err-clause-tried g c =
    asked_after c.args.graph.now.procedure c.args.graph.now.tables c.args.task.now _ (g.V.View.sight c.args.view.now).database (g.V.View.sight c.args.view.now) (g.V.View.sight c.execute_next.new.view) (is g c).before
    c.execute_next.ensures.bounded

pub returns-in-Err-clause-past : goal.returns-in-Err-clause-past
returns-in-Err-clause-past g c = ap (λ (l : Logged). l.past) c.truncate.ensures ∙ c.execute_next.ensures.past

pub returns-in-Err-clause-kept : goal.returns-in-Err-clause-kept
returns-in-Err-clause-kept g c = ap (λ (l : Logged). l.kept) c.truncate.ensures ∙ c.execute_next.ensures.kept
