use Rattle.std.proofs.Common.{refl, rules, arith, length, ap}
use Rattle.mv_core.proofs.tasks.whole_task.Goals as goal

pub run_all-requires : goal.run_all-requires
run_all-requires g c = λ k. ((refl, tt), (search rules, (search rules, (search rules, (c.in_ok-task.ensures.runs (g.V.View.sight c.args.view.now).database)))))

pub returns-clause-executed : goal.returns-clause-executed
returns-clause-executed g c =
    let fresh = c.in_ok-task.ensures.executed in
    let none = ap length c.in_ok-task.ensures.records in
    let counts = c.in_ok-run_all.ensures.counts.executed in
    omega (arith, fresh, none, counts)
