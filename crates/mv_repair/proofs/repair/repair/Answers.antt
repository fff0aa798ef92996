use Rattle.std.proofs.Common.{◌≡◌, true, [], List, All, refl, sym, ap, rules, subst, ◌∙◌}
use Rattle.mv_values.specs.Tables.{Tables}
use Rattle.mv_values.specs.declared.pred.Pred.{Pred}
use Rattle.mv_record.specs.declared.record.Record.{Record}
use Rattle.mv_record.specs.Runs.{writes_in}
use Rattle.mv_undo.specs.Owning.{undo_of_all}
use Rattle.mv_undo.proofs.Writing.{has_writes}
use Rattle.mv_effect.specs.Looking.{AskedFor}
use Rattle.mv_exec.specs.Running.{if_refused, preds_ahead}
use Rattle.mv_exec.proofs.Viewing.{never_on, same_on}
use Rattle.mv_changes.specs.Admitting.{AreAdmitted}
use Rattle.mv_repair.specs.Repairing.{changes_since, HasQueried}
use Rattle.mv_repair.specs.Stepping.{HasStepped}
use Rattle.mv_repair.specs.Walking.{hits_in}
use Rattle.mv_repair.proofs.Repairing.{begun, none_queried, all_there, is_on, tried}
use Rattle.mv_repair.proofs.repair.repair.Goals as goal

pub hits_of-requires-clause-writes : goal.hits_of-requires-clause-writes
hits_of-requires-clause-writes g c = has_writes c.undo.result c.records.result (c.undo.ensures ∙ ap (undo_of_all 0) (sym c.records.ensures))

pub hits_of-requires-clause-admitted : goal.hits_of-requires-clause-admitted
hits_of-requires-clause-admitted g c = subst (λ (rs : List Record). All (AreAdmitted (changes_since c.args.since.now)) rs) (sym c.records.ensures) c.requires.leads.admitted

pub loop-alloc-init : goal.loop-alloc-init
loop-alloc-init g c = record {
  underway =
      begun c.args.graph.now (changes_since c.args.since.now) (g.V.View.sight c.args.view.now).database c.args.task.now c.begin_repair.new.self c.in_ok-hits.hits c.new.result c.new-2.result c.new-3.result c.new-4.result
      c.new-5.result
      c.requires.leads (λ call is. c.begin_repair.ensures.call c.args.graph.now call is) c.begin_repair.ensures.records c.begin_repair.ensures.executed c.begin_repair.ensures.past c.begin_repair.ensures.kept
      (c.in_ok-hits.ensures ∙ ap (λ (rs : List Record). hits_in (changes_since c.args.since.now) [] rs) c.records.ensures) c.new.ensures c.new-2.ensures c.new-3.ensures c.new-4.ensures
      c.new-5.ensures;
  call = λ call is. c.begin_repair.ensures.call c.args.graph.now call is;
  queried = none_queried c.args.task.now.log.records c.begin_repair.new.self.log.records (changes_since c.args.since.now) [] (g.V.View.sight c.args.view.now);
  same = record { database = refl; start = refl; may_be_stale = refl };
  never = record { answers = refl; last_low = refl };
}

pub loop-alloc-preserved : goal.loop-alloc-preserved
loop-alloc-preserved g c =
    let stepped =
    subst (λ (db : Tables). HasStepped c.args.graph.now db c.loop-alloc.task c.loop-alloc.old c.loop-alloc.new c.step.new.task c.step.new.old c.step.new.new (g.V.View.sight c.loop-alloc.view) (g.V.View.sight c.step.new.view))
    c.loop-alloc.invariant.same.database c.in_ok-step.ensures.stepped in
    record {
      underway = stepped.went (changes_since c.args.since.now) c.args.task.now.log.records c.loop-alloc.invariant.underway;
      call = λ call is. c.step.ensures.call call (c.loop-alloc.invariant.call call is);
      queried = stepped.queried (changes_since c.args.since.now) c.args.task.now.log.records (g.V.View.sight c.args.view.now) c.loop-alloc.invariant.underway c.loop-alloc.invariant.queried;
      same = same_on (g.V.View.sight c.args.view.now) (g.V.View.sight c.loop-alloc.view) (g.V.View.sight c.step.new.view) c.step.ensures.view.same c.loop-alloc.invariant.same;
      never = never_on (g.V.View.sight c.args.view.now) (g.V.View.sight c.loop-alloc.view) (g.V.View.sight c.step.new.view) c.in_ok-step.ensures.view.passes_on c.loop-alloc.invariant.never;
    }

pub returns-clause-on : goal.returns-clause-on
returns-clause-on g c = λ call is.
    let ended : c.loop-alloc.task.ended ≡ true = search rules in
    let here = c.loop-alloc.invariant.call call is in
    is_on c.args.graph.now call (g.V.View.sight c.args.view.now).database c.loop-alloc.task here
    (all_there c.args.graph.now (changes_since c.args.since.now) (g.V.View.sight c.args.view.now).database c.args.task.now.log.records c.loop-alloc.task c.loop-alloc.old c.loop-alloc.new c.loop-alloc.invariant.underway ended call here)

pub returns-clause-records : goal.returns-clause-records
returns-clause-records g c = λ call is.
    let ended : c.loop-alloc.task.ended ≡ true = search rules in
    all_there c.args.graph.now (changes_since c.args.since.now) (g.V.View.sight c.args.view.now).database c.args.task.now.log.records c.loop-alloc.task c.loop-alloc.old c.loop-alloc.new c.loop-alloc.invariant.underway ended call (c.loop-alloc.invariant.call call is)

pub returns-clause-past : goal.returns-clause-past
returns-clause-past g c = c.loop-alloc.invariant.underway.past

pub returns-in_err-step-clause-queried : goal.returns-in_err-step-clause-queried
returns-in_err-step-clause-queried g c =
    let start = g.V.View.sight c.args.view.now in
    let now = g.V.View.sight c.loop-alloc.view in
    let after = g.V.View.sight c.step.new.view in
    let ps = preds_ahead c.args.graph.now start.database c.step.new.task in
    let tells : if_refused c.from_residual-in_err-step.result ps ≡ ps = search rules in
    subst (λ (qs : List Pred). HasQueried c.args.task.now.log.records c.step.new.task.log.records (changes_since c.args.since.now) qs start after) (sym tells)
    (tried c.args.task.now.log.records c.loop-alloc.task c.step.new.task (changes_since c.args.since.now) ps start now after c.loop-alloc.invariant.queried c.in_err-step.ensures.err
    (subst (λ (db : Tables). AskedFor (preds_ahead c.args.graph.now db c.step.new.task) (writes_in c.step.new.task.log.records) now after) c.loop-alloc.invariant.same.database c.in_err-step.ensures.tried))
