use Rattle.std.proofs.Common.{refl, sym, ap, ◌∙◌}
use Rattle.std.proofs.lemmas.Result.{on_ok_weaker}
use Rattle.mv_record.specs.Runs.{Run}
use Rattle.mv_core.proofs.Stored.{run_is}
use Rattle.mv_core.proofs.Taking.{runs_on, task_for}
use Rattle.mv_core.proofs.running.repair_over.Goals as goal

pub repair-requires : goal.repair-requires
repair-requires g c = λ k. ((refl, tt), (((c.requires.script.1.runs c.args.number c.find_call-at.result.call.now c.find_call-at.result.graph.now c.find_call-at.ensures).sound), (c.requires.leads c.find_call-at.result.call.now c.find_call-at.result.graph.now c.find_call-at.ensures)))

pub returns-clause-call : goal.returns-clause-call
returns-clause-call g c =
    let here = c.find_call-at.ensures in
    task_for c.args.script.now c.args.number c.find_call-at.result.call.now c.find_call-at.result.graph.now c.repair.new.task here (c.repair.ensures.call c.find_call-at.result.call.now (c.requires.call c.find_call-at.result.call.now c.find_call-at.result.graph.now here))

pub returns-clause-runs : goal.returns-clause-runs
returns-clause-runs g c = on_ok_weaker c.repair.result (λ on.
    let here = c.find_call-at.ensures in
    runs_on c.args.script.now c.args.number c.find_call-at.result.call.now c.find_call-at.result.graph.now _ c.repair.new.task here (on c.find_call-at.result.call.now (c.requires.call c.find_call-at.result.call.now c.find_call-at.result.graph.now here))) c.repair.ensures.on

pub returns-clause-records : goal.returns-clause-records
returns-clause-records g c = on_ok_weaker c.repair.result (λ are.
    let here = c.find_call-at.ensures in
    are c.find_call-at.result.call.now (c.requires.call c.find_call-at.result.call.now c.find_call-at.result.graph.now here)
    ∙ ap (λ (r : Run). r.records) (sym (run_is c.args.script.now c.args.number c.find_call-at.result.call.now c.find_call-at.result.graph.now _ here))) c.repair.ensures.records
