use Rattle.std.proofs.Common.{refl, arith, List, length, length-append, sym, ap, ◌∙◌}
use Rattle.std.proofs.lemmas.Result.{on_ok_weaker}
use Rattle.mv_record.specs.declared.record.Record.{Record}
use Rattle.mv_record.specs.Runs.{Run}
use Rattle.mv_core.proofs.Stored.{run_is}
use Rattle.mv_core.proofs.Taking.{runs_on}
use Rattle.mv_core.proofs.running.run_all.Goals as goal

pub finish-requires : goal.finish-requires
finish-requires g c = λ k. ((refl, tt), (((c.requires.script.1.runs c.args.number c.find_call-at.result.call.now c.find_call-at.result.graph.now c.find_call-at.ensures).sound), ((c.requires.database c.find_call-at.result.call.now c.find_call-at.result.graph.now c.find_call-at.ensures), ((c.find_call-at.result.call.now, c.requires.runs c.find_call-at.result.call.now c.find_call-at.result.graph.now c.find_call-at.ensures)))))

pub returns-clause-runs : goal.returns-clause-runs
returns-clause-runs g c =
    let here = c.find_call-at.ensures in
    runs_on c.args.script.now c.args.number c.find_call-at.result.call.now c.find_call-at.result.graph.now _ c.finish.new.task here (c.finish.ensures.goes_on c.find_call-at.result.call.now (c.requires.runs c.find_call-at.result.call.now c.find_call-at.result.graph.now here))

pub returns-clause-records : goal.returns-clause-records
returns-clause-records g c = on_ok_weaker c.finish.result (λ are.
    let here = c.find_call-at.ensures in
    are c.find_call-at.result.call.now (c.requires.runs c.find_call-at.result.call.now c.find_call-at.result.graph.now here).is
    ∙ ap (λ (r : Run). r.records) (sym (run_is c.args.script.now c.args.number c.find_call-at.result.call.now c.find_call-at.result.graph.now _ here))) c.finish.ensures.records

pub returns-clause-counts : goal.returns-clause-counts
returns-clause-counts g c =
    let h = c.finish.ensures.ran in
    let all = ap (λ (rs : List Record). length rs) h.records ∙ length-append c.args.task.now.log.records h.more in
    let many = h.executed in
    record { executed = omega (arith, all, many); more = omega (arith, all) }
