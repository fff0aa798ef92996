use Rattle.std.proofs.Common.{rules, ◌≡◌, ◌<◌, ◌^◌, ◌+◌, List, refl, sym, ap, subst, ◌∙◌}
use Rattle.std.proofs.lemmas.Result.{err_from_is_err_and}
use Rattle.mv_values.specs.Patching.{applied}
use Rattle.mv_values.specs.Tables.{KeysStand}
use Rattle.mv_values.proofs.Deciding.{always_err}
use Rattle.mv_record.specs.declared.record.Record.{Record}
use Rattle.mv_record.specs.Runs.{writes_in}
use Rattle.mv_log.specs.Logged.{Logged}
use Rattle.mv_exec.specs.Running.{preds_ahead}
use Rattle.mv_exec.specs.Steps.{HasExecuted}
use Rattle.mv_exec.specs.Tasks.{StandsAsBefore}
use Rattle.mv_effect.proofs.Asked.{none_asked}
use Rattle.mv_exec.proofs.Fronts.{asked_before, on_err, on_ok, executed_before}
use Rattle.mv_exec.proofs.Logs.{before_both, opened_blank}
use Rattle.mv_exec.proofs.execute.execute_next.Goals as goal
use Rattle.mv_exec.proofs.execute.execute_next.Goals.{After-execute, After-from_residual}

pub execute-requires : goal.execute-requires
execute-requires g c = λ k. ((refl, tt), (search rules, (search rules, (search rules, ((opened_blank c.args.task.now.log c.advance.new.task.log c.advance.ensures.log c.requires.rest.blank), (search rules, (search rules, ((subst (λ n. n < 2 ^ 16) (sym c.advance.ensures.found) c.requires.found), (search rules, (subst (λ (rs : List Record). KeysStand c.args.graph.now.tables (applied (writes_in rs) (g.V.View.sight c.args.view.now).database)) (sym c.advance.ensures.same.records) c.requires.keys))))))))))

pub returns-clause-executed : goal.returns-clause-executed
returns-clause-executed g c =
    on_ok c.execute.result (HasExecuted c.args.graph.now.tables c.args.graph.now.procedure c.advance.new.task c.execute.new.task (g.V.View.sight c.args.view.now) (g.V.View.sight c.execute.new.view))
    (HasExecuted c.args.graph.now.tables c.args.graph.now.procedure c.args.task.now c.execute.new.task (g.V.View.sight c.args.view.now) (g.V.View.sight c.execute.new.view))
    (λ it. executed_before c.args.graph.now.procedure c.args.graph.now.tables c.args.task.now c.advance.new.task c.execute.new.task (g.V.View.sight c.args.view.now) (g.V.View.sight c.execute.new.view)
    c.advance.ensures.same it)
    c.execute.ensures.executed

pub returns-clause-counted : goal.returns-clause-counted
returns-clause-counted g c =
    on_ok c.execute.result (c.execute.new.task.executed ≡ c.advance.new.task.executed + 1) (c.execute.new.task.executed ≡ c.args.task.now.executed + 1)
    (λ counted. counted ∙ ap (λ n. n + 1) c.advance.ensures.same.executed) c.execute.ensures.counted

pub returns-clause-past : goal.returns-clause-past
returns-clause-past g c = c.execute.ensures.past ∙ ap (λ (l : Logged). l.past) c.advance.ensures.log

pub returns-clause-kept : goal.returns-clause-kept
returns-clause-kept g c = c.execute.ensures.kept ∙ ap (λ (l : Logged). l.kept) c.advance.ensures.log

pub returns-clause-err : goal.returns-clause-err
returns-clause-err g c =
    on_err c.execute.result (StandsAsBefore c.args.graph.now.procedure c.advance.new.task c.execute.new.task) (StandsAsBefore c.args.graph.now.procedure c.args.task.now c.execute.new.task)
    (before_both c.args.graph.now.procedure c.args.task.now c.advance.new.task c.execute.new.task c.advance.ensures.same) c.execute.ensures.err

pub returns-clause-bounded : goal.returns-clause-bounded
returns-clause-bounded g c =
    asked_before c.args.graph.now.procedure c.args.graph.now.tables c.args.task.now c.advance.new.task (g.V.View.sight c.args.view.now).database (g.V.View.sight c.args.view.now) (g.V.View.sight c.execute.new.view)
    c.advance.ensures.same c.execute.ensures.bounded

-- Where no memory was found before the view was asked

pub returns-in_err-at-clause-past : goal.returns-in_err-at-clause-past
returns-in_err-at-clause-past g c = ap (λ (l : Logged). l.past) c.advance.ensures.log

pub returns-in_err-at-clause-kept : goal.returns-in_err-at-clause-kept
returns-in_err-at-clause-kept g c = ap (λ (l : Logged). l.kept) c.advance.ensures.log

pub returns-in_err-at-clause-err : goal.returns-in_err-at-clause-err
returns-in_err-at-clause-err g c = always_err c.from_residual.result (StandsAsBefore c.args.graph.now.procedure c.args.task.now c.advance.new.task) c.advance.ensures.same

pub returns-in_err-at-clause-bounded : goal.returns-in_err-at-clause-bounded
returns-in_err-at-clause-bounded g c =
    let before = g.V.View.sight c.args.view.now in
    none_asked (preds_ahead c.args.graph.now before.database c.args.task.now) (writes_in c.args.task.now.log.records) before

pub returns-in_err-at-clause-view : goal.returns-in_err-at-clause-view
returns-in_err-at-clause-view g c =
    let p = err_from_is_err_and c.from_residual.result c.from_residual.ensures.1 in
    rw (p.1, p.2) (record { same = record { database = refl; start = refl; may_be_stale = refl }; may_refuse = tt; passes_on = record { answers = refl; last_low = refl } })
