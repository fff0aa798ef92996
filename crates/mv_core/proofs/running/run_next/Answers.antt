use Rattle.std.proofs.Common.{refl, ◌∷◌, [], List, length, length-append, ap, ◌∙◌}
use Rattle.std.proofs.lemmas.Result.{on_ok_weaker}
use Rattle.mv_record.specs.declared.record.Record.{Record}
use Rattle.mv_core.proofs.Taking.{runs_on}
use Rattle.mv_core.proofs.running.run_next.Goals as goal

pub next-requires : goal.next-requires
next-requires g c = λ k. ((refl, tt), (((c.requires.script.1.runs c.args.number c.find_call-at.result.call.now c.find_call-at.result.graph.now c.find_call-at.ensures).sound), ((c.requires.database c.find_call-at.result.call.now c.find_call-at.result.graph.now c.find_call-at.ensures), ((c.find_call-at.result.call.now, c.requires.runs c.find_call-at.result.call.now c.find_call-at.result.graph.now c.find_call-at.ensures)))))

pub returns-clause-runs : goal.returns-clause-runs
returns-clause-runs g c =
    let here = c.find_call-at.ensures in
    runs_on c.args.script.now c.args.number c.find_call-at.result.call.now c.find_call-at.result.graph.now _ c.next.new.task here (c.next.ensures.goes_on c.find_call-at.result.call.now (c.requires.runs c.find_call-at.result.call.now c.find_call-at.result.graph.now here))

pub returns-clause-ran : goal.returns-clause-ran
returns-clause-ran g c = on_ok_weaker c.next.result (λ ran live.
    let h = ran live in
    record { records = ap (λ (rs : List Record). length rs) h.records ∙ length-append c.args.task.now.log.records (h.next ∷ []); executed = h.executed }) c.next.ensures.ran
