use Rattle.std.proofs.Common.{◌<◌, length, refl, sym, ap, subst, ◌∙◌}
use Rattle.mv_view.specs.Viewing.{Sight}
use Rattle.mv_changes.specs.Commits.{changes_in}
use Rattle.mv_repair.specs.Repairing.{changes_since}
use Rattle.mv_script.specs.declared.script.CompiledScript.{CompiledScript}
use Rattle.mv_script.specs.Scripts.{IsCompiledScript}
use Rattle.mv_core.specs.Cores.{IsTaskFor, CanRepair}
use Rattle.mv_core.proofs.Stored.{can_repair}
use Rattle.mv_core.proofs.Taking.{task_runs}
use Rattle.mv_shards.specs.Ledgers.{Entered}
use Rattle.mv_gate.proofs.Seeing.{asked_late, told_low}
use Rattle.mv_gate.proofs.Committing.{tables_here, latest_of, repaired_of}
use Rattle.mv_shards.specs.Leaves.{start_shown}
use Rattle.mv_gate.proofs.Pins.{leave_shown}
use Rattle.mv_gate.proofs.latest.repair_last.Goals as goal

pub since-since-requires-clause-live : goal.since-since-requires-clause-live
since-since-requires-clause-live g c = c.requires.whole.live

pub repair_over-requires : goal.repair_over-requires
repair_over-requires g c = λ k. (
  (refl, tt),
  (
    (subst IsCompiledScript (sym c.args.beside.now.named) c.commits-commits.ensures.kept.script),
    (
      (subst (λ (s : CompiledScript). c.args.call < length s.calls) (sym (c.args.beside.now.named ∙ sym c.requires.script)) c.requires.whole.there),
      (
        (subst (λ (s : CompiledScript). IsTaskFor s c.args.call c.args.task.now) (sym (c.args.beside.now.named ∙ sym c.requires.script))
            (task_runs c.args.book.now.script c.args.call _ c.args.task.now (c.requires.whole.runs c.requires.whole.live.0 c.requires.whole.live.1))),
        (let live = c.requires.whole.live in
            subst (λ (s : CompiledScript). CanRepair s c.args.call c.args.task.now (changes_since c.since-since.result.now) c.view-view.result.sight.database) (sym (c.args.beside.now.named ∙ sym c.requires.script))
            (can_repair c.args.book.now.script c.args.book.now.schedule.order c.args.call (live.0).start c.args.task.now (changes_in c.since-since.result.now) c.view-view.result.sight.database
            (subst IsCompiledScript (sym c.requires.script) c.commits-commits.ensures.kept.script) (c.requires.whole.runs live.0 live.1) c.requires.whole.ended (c.since-since.ensures.changes live.0 live.1)
            (ap (λ (s : Sight). s.database) c.view-view.ensures.sight
            ∙ tables_here g.N.Making.script c.args.book.now c.args.ledger.now c.requires.script (record { seen = c.requires.seen; commits = c.commits-commits.ensures.kept.seen ∙ ap length c.requires.seen })))),
      ),
    ),
  ),
)

pub last_error-requires-clause-low : goal.last_error-requires-clause-low
last_error-requires-clause-low g c =
    told_low g.N.Making.script.options.horizon c.view-view.new.self.commits _ c.repair_over.new.view.sight c.in-Err.why
    (asked_late c.view-view.result.sight c.repair_over.new.view.sight _ c.in-Err.why c.view-view.new.self.commits c.in-Err.ensures.view refl
    (ap (λ (s : Sight). s.start) c.view-view.ensures.sight ∙ sym (ap (λ (l : Entered). l.commits) c.view-view.ensures.same)))
    c.into_parts-seen-in-Err.ensures.low

pub returns-in-Ok-clause-latest : goal.returns-in-Ok-clause-latest
returns-in-Ok-clause-latest g c =
    latest_of c.args.book.now c.args.call c.repair_over.new.task c.args.beside.now.script.now c.view-view.result.sight.database (subst IsCompiledScript (sym c.requires.script) c.commits-commits.ensures.kept.script) c.requires.whole.there
    (c.args.beside.now.named ∙ sym c.requires.script)
    (ap (λ (s : Sight). s.database) c.view-view.ensures.sight
    ∙ tables_here g.N.Making.script c.args.book.now c.args.ledger.now c.requires.script (record { seen = c.requires.seen; commits = c.commits-commits.ensures.kept.seen ∙ ap length c.requires.seen }))
    c.in-Ok.ensures.runs c.in-Ok.ensures.records

pub returns-in-Ok-clause-executed : goal.returns-in-Ok-clause-executed
returns-in-Ok-clause-executed g c =
    let live = c.requires.whole.live in
    repaired_of c.args.book.now c.args.call live.0 c.args.task.now c.repair_over.new.task c.since-since.result.now live.1 (c.since-since.ensures.changes live.0 live.1) (c.requires.whole.records live.0 live.1)
    (latest_of c.args.book.now c.args.call c.repair_over.new.task c.args.beside.now.script.now c.view-view.result.sight.database (subst IsCompiledScript (sym c.requires.script) c.commits-commits.ensures.kept.script) c.requires.whole.there
    (c.args.beside.now.named ∙ sym c.requires.script)
    (ap (λ (s : Sight). s.database) c.view-view.ensures.sight
    ∙ tables_here g.N.Making.script c.args.book.now c.args.ledger.now c.requires.script (record { seen = c.requires.seen; commits = c.commits-commits.ensures.kept.seen ∙ ap length c.requires.seen }))
    c.in-Ok.ensures.runs c.in-Ok.ensures.records).records c.in-Ok.ensures.executed

pub returns-in-Ok-clause-last : goal.returns-in-Ok-clause-last
returns-in-Ok-clause-last g c =
    leave_shown g.N.Making.script g.N.Naming.word (start_shown c.into_parts-seen.result.1) c.view-view.result.sight c.repair_over.new.view.sight c.args.ledger.now.commits c.in-Ok.ensures.view.same (ap (λ (s : Sight). s.start) c.view-view.ensures.sight) c.into_parts-seen.ensures.leave

pub returns-in-Err-clause-last : goal.returns-in-Err-clause-last
returns-in-Err-clause-last g c =
    leave_shown g.N.Making.script g.N.Naming.word (start_shown c.into_parts-seen-in-Err.result.1) c.view-view.result.sight c.repair_over.new.view.sight c.args.ledger.now.commits c.in-Err.ensures.view.same (ap (λ (s : Sight). s.start) c.view-view.ensures.sight) c.into_parts-seen-in-Err.ensures.leave
