use Rattle.std.proofs.Common.{◌<◌, length, refl, sym, ap, subst, ◌∙◌, arith}
use Rattle.mv_view.specs.Viewing.{Sight}
use Rattle.mv_script.specs.declared.script.CompiledScript.{CompiledScript}
use Rattle.mv_script.specs.Scripts.{IsCompiledScript, batch_of}
use Rattle.mv_shards.specs.Scripts.{batch}
use Rattle.mv_shards.specs.Ledgers.{Entered}
use Rattle.mv_shards.specs.Histories.{tables_at}
use Rattle.mv_gate.proofs.Running.{runs_here}
use Rattle.mv_gate.proofs.Seeing.{asked_late, told_low, shown_in}
use Rattle.mv_shards.specs.Leaves.{start_shown}
use Rattle.mv_gate.proofs.Pins.{leave_shown}
use Rattle.mv_gate.proofs.latest.run_last.Goals as goal

pub new_task-requires-clause-script : goal.new_task-requires-clause-script
new_task-requires-clause-script g c = subst IsCompiledScript (sym c.args.beside.now.named) c.commits-commits.ensures.kept.script

pub new_task-requires-clause-number : goal.new_task-requires-clause-number
new_task-requires-clause-number g c = subst (λ (s : CompiledScript). c.args.call < length s.calls) (sym c.args.beside.now.named) c.requires.there

pub run_all-requires : goal.run_all-requires
run_all-requires g c = λ k. (
  (refl, tt),
  (
    (subst IsCompiledScript (sym c.args.beside.now.named) c.commits-commits.ensures.kept.script),
    (
      (subst (λ (s : CompiledScript). c.args.call < length s.calls) (sym c.args.beside.now.named) c.requires.there),
      (
        (shown_in g.N.Making.script c.args.ledger.now.knows.seen c.args.call c.args.ledger.now.commits c.args.beside.now.script.now c.view-view.result.sight.database c.commits-commits.ensures.kept.script c.args.beside.now.named
            (ap (λ (s : Sight). s.database) c.view-view.ensures.sight)),
        (c.in_ok-task.ensures.runs c.view-view.result.sight.database),
      ),
    ),
  ),
)

pub last_error-requires-clause-low : goal.last_error-requires-clause-low
last_error-requires-clause-low g c =
    told_low g.N.Making.script.options.horizon c.view-view.new.self.commits _ c.run_all.new.view.sight c.in-Err.why
    (asked_late c.view-view.result.sight c.run_all.new.view.sight _ c.in-Err.why c.view-view.new.self.commits c.in-Err.ensures.view refl
    (ap (λ (s : Sight). s.start) c.view-view.ensures.sight ∙ sym (ap (λ (l : Entered). l.commits) c.view-view.ensures.same)))
    c.into_parts-seen-in-Err.ensures.low

pub returns-in-Ok-clause-runs : goal.returns-in-Ok-clause-runs
returns-in-Ok-clause-runs g c =
    runs_here g.N.Making.script c.args.beside.now.script.now c.args.call c.view-view.result.sight.database (tables_at g.N.Making.script c.args.ledger.now.knows.seen c.args.ledger.now.commits) c.run_all.new.task c.args.beside.now.named
    (ap (λ (s : Sight). s.database) c.view-view.ensures.sight) c.run_all.ensures.runs

pub returns-in-Ok-clause-records : goal.returns-in-Ok-clause-records
returns-in-Ok-clause-records g c =
    c.in-Ok.ensures.records
    ∙ (ap (λ (s : CompiledScript). ((batch_of s).run c.args.call c.view-view.result.sight.database).records) c.args.beside.now.named
    ∙ ap (λ (v : Sight). ((batch g.N.Making.script).run c.args.call v.database).records) c.view-view.ensures.sight)

pub returns-in-Ok-clause-executed : goal.returns-in-Ok-clause-executed
returns-in-Ok-clause-executed g c =
    let all = c.run_all.ensures.counts.executed in
    let none = ap length c.in_ok-task.ensures.records in
    let zero = c.in_ok-task.ensures.executed in
    omega (arith, all, none, zero)

pub returns-in-Ok-clause-last : goal.returns-in-Ok-clause-last
returns-in-Ok-clause-last g c =
    leave_shown g.N.Making.script g.N.Naming.word (start_shown c.into_parts-seen.result.1) c.view-view.result.sight c.run_all.new.view.sight c.args.ledger.now.commits c.in-Ok.ensures.view.same (ap (λ (s : Sight). s.start) c.view-view.ensures.sight) c.into_parts-seen.ensures.leave

pub returns-in-Err-clause-last : goal.returns-in-Err-clause-last
returns-in-Err-clause-last g c =
    leave_shown g.N.Making.script g.N.Naming.word (start_shown c.into_parts-seen-in-Err.result.1) c.view-view.result.sight c.run_all.new.view.sight c.args.ledger.now.commits c.in-Err.ensures.view.same (ap (λ (s : Sight). s.start) c.view-view.ensures.sight) c.into_parts-seen-in-Err.ensures.leave
