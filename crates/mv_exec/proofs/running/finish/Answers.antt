use Rattle.std.proofs.Common.{◌≡◌, false, true, List, rules, sym, subst}
use Rattle.mv_values.specs.declared.pred.Pred.{Pred}
use Rattle.mv_values.specs.Tables.{Tables}
use Rattle.mv_record.specs.Runs.{writes_in}
use Rattle.mv_effect.specs.Looking.{AskedFor}
use Rattle.mv_exec.specs.Running.{IsRunningOn, IsSameCallOn, HasRunTo, if_refused, preds_ahead}
use Rattle.mv_exec.proofs.Counting.{run_in_vain, run_on}
use Rattle.mv_exec.proofs.Fronts.{finished}
use Rattle.mv_exec.proofs.Viewing.{never_on, same_on}
use Rattle.mv_exec.proofs.running.finish.Goals as goal

pub loop-alloc-preserved : goal.loop-alloc-preserved
loop-alloc-preserved g c =
    let live : c.loop-alloc.task.ended ≡ false = search rules in
    record {
      running = subst (λ (db : Tables). IsRunningOn c.args.graph.now db c.next.new.task) c.loop-alloc.invariant.same.database c.next.ensures.running;
      call = λ call is. c.next.ensures.call call (c.loop-alloc.invariant.call call is);
      goes_on = λ call on.
          subst (λ (db : Tables). IsSameCallOn c.args.graph.now db c.loop-alloc.task c.next.new.task) c.loop-alloc.invariant.same.database c.next.ensures.goes_on call (c.loop-alloc.invariant.goes_on call on);
      ran = run_on c.args.task.now c.loop-alloc.task c.next.new.task (g.V.View.sight c.args.view.now) (g.V.View.sight c.loop-alloc.view) (g.V.View.sight c.next.new.view)
          c.loop-alloc.invariant.ran (c.in_ok-next.ensures.ran live);
      same = same_on (g.V.View.sight c.args.view.now) (g.V.View.sight c.loop-alloc.view) (g.V.View.sight c.next.new.view) c.next.ensures.view.same c.loop-alloc.invariant.same;
      never = never_on (g.V.View.sight c.args.view.now) (g.V.View.sight c.loop-alloc.view) (g.V.View.sight c.next.new.view) c.in_ok-next.ensures.view.passes_on c.loop-alloc.invariant.never;
    }

pub returns-in_err-next-clause-ran : goal.returns-in_err-next-clause-ran
returns-in_err-next-clause-ran g c =
    let before = g.V.View.sight c.args.view.now in
    let now = g.V.View.sight c.loop-alloc.view in
    let after = g.V.View.sight c.next.new.view in
    let ps = preds_ahead c.args.graph.now before.database c.next.new.task in
    let tells : if_refused c.from_residual.result ps ≡ ps = search rules in
    subst (λ (qs : List Pred). HasRunTo c.args.task.now c.next.new.task qs before after) (sym tells)
    (run_in_vain c.args.task.now c.loop-alloc.task c.next.new.task ps before now after c.loop-alloc.invariant.ran c.in_err-next.ensures.err
    (subst (λ (db : Tables). AskedFor (preds_ahead c.args.graph.now db c.next.new.task) (writes_in c.next.new.task.log.records) now after) c.loop-alloc.invariant.same.database c.in_err-next.ensures.tried))

pub returns-clause-records : goal.returns-clause-records
returns-clause-records g c = λ call is.
    let ended : c.loop-alloc.task.ended ≡ true = search rules in
    finished c.args.graph.now (g.V.View.sight c.args.view.now).database c.loop-alloc.task c.requires.database.rising c.loop-alloc.invariant.running ended call (c.loop-alloc.invariant.call call is)
