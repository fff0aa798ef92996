use Rattle.std.proofs.Common.{Some, List, ◌<◌, length, refl, sym, ap, subst, ◌∙◌}
use Rattle.mv_view.specs.Viewing.{Sight}
use Rattle.mv_changes.specs.declared.recent.Committed.{Committed}
use Rattle.mv_repair.specs.Repairing.{changes_since}
use Rattle.mv_script.specs.declared.script.CompiledScript.{CompiledScript}
use Rattle.mv_script.specs.Scripts.{IsCompiledScript, batch_of}
use Rattle.mv_shards.specs.Scripts.{script_in}
use Rattle.mv_history.specs.Kept.{executions}
use Rattle.mv_shards.specs.Scripts.{batch}
use Rattle.mv_shards.specs.Histories.{tables_at}
use Rattle.mv_core.specs.Cores.{IsTaskFor, CanRepair}
use Rattle.mv_core.proofs.Taking.{task_runs}
use Rattle.mv_gate.specs.Gates.{Holding, Repairing, IsHeld}
use Rattle.mv_shards.specs.Reads.{Started}
use Rattle.mv_gate.proofs.Seeing.{asked_late, told_low}
use Rattle.mv_gate.proofs.Running.{runs_here, may_repair, held_repaired}
use Rattle.mv_shards.specs.Leaves.{start_shown}
use Rattle.mv_gate.proofs.Pins.{leave_at, leave_shown}
use Rattle.mv_gate.proofs.pinned.PinnedRepair.run.Goals as goal

pub repair_over-requires : goal.repair_over-requires
repair_over-requires g c = λ k. (
  (refl, tt),
  (
    (subst IsCompiledScript (sym c.args.beside.now.named) c.repair.invariant.sound),
    (
      (subst (λ (s : CompiledScript). c.repair.inside.call < length s.calls) (sym c.args.beside.now.named) c.repair.invariant.there),
      (
        (subst (λ (s : CompiledScript). IsTaskFor s c.repair.inside.call c.repair.inside.task) (sym c.args.beside.now.named) (task_runs (script_in g.N.Making.script) c.repair.inside.call _ c.repair.inside.task c.repair.invariant.runs)),
        (let r : Repairing = record { call = c.repair.inside.call; start = c.repair.inside.start; from = c.repair.inside.from; task = c.repair.inside.task; since = c.repair.inside.since } in
            subst (λ (s : CompiledScript). CanRepair s r.call r.task (changes_since c.as_slice-commits.result.now) c.view-view.result.sight.database) (sym c.args.beside.now.named)
            (subst (λ (cs : List Committed). CanRepair (script_in g.N.Making.script) r.call r.task (changes_since cs) c.view-view.result.sight.database) (sym c.as_slice-commits.ensures)
            (may_repair g.N.Making.script r c.view-view.result.sight.database c.repair.invariant (ap (λ (v : Sight). v.database) c.view-view.ensures.sight)))),
      ),
    ),
  ),
)

pub refused-requires-clause-low : goal.refused-requires-clause-low
refused-requires-clause-low g c =
    told_low g.N.Making.script.options.horizon c.view-view.new.start.number _ c.repair_over.new.view.sight c.in-Err.why
    (asked_late c.view-view.result.sight c.repair_over.new.view.sight _ c.in-Err.why c.view-view.new.start.number c.in-Err.ensures.view refl
    (ap (λ (s : Sight). s.start) c.view-view.ensures.sight ∙ sym (ap (λ (x : Started). x.number) c.view-view.ensures.same)))
    c.into_parts-seen-in-Err.ensures.low

pub invariant_of-held : goal.invariant_of-held
invariant_of-held g c =
    let s = g.N.Making.script in
    subst (λ (x : Started). IsHeld s (record { call = c.repair.inside.call; start = x; from = Some c.repair.inside.from; task = c.repair_over.new.task })) (sym c.view-view.ensures.same)
    (held_repaired s (record { call = c.repair.inside.call; start = c.repair.inside.start; from = c.repair.inside.from; task = c.repair.inside.task; since = c.repair.inside.since }) c.repair_over.new.task c.repair.invariant
    (runs_here s c.args.beside.now.script.now c.repair.inside.call c.view-view.result.sight.database (tables_at s c.repair.inside.start.knows.seen c.repair.inside.start.number) c.repair_over.new.task c.args.beside.now.named (ap (λ (v : Sight). v.database) c.view-view.ensures.sight)
    c.in-Ok.ensures.runs)
    (c.in-Ok.ensures.records
    ∙ (ap (λ (x : CompiledScript). ((batch_of x).run c.repair.inside.call c.view-view.result.sight.database).records) c.args.beside.now.named ∙ ap (λ (v : Sight). ((batch s).run c.repair.inside.call v.database).records) c.view-view.ensures.sight))
    (c.in-Ok.ensures.executed ∙ ap (λ (cs : List Committed). executions c.repair.inside.task.log.records c.repair_over.new.task.log.records (changes_since cs)) c.as_slice-commits.ensures)).0

pub new-requires : goal.new-requires
new-requires g c =
    let s = g.N.Making.script in
    (held_repaired s (record { call = c.repair.inside.call; start = c.repair.inside.start; from = c.repair.inside.from; task = c.repair.inside.task; since = c.repair.inside.since }) c.repair_over.new.task c.repair.invariant
    (runs_here s c.args.beside.now.script.now c.repair.inside.call c.view-view.result.sight.database (tables_at s c.repair.inside.start.knows.seen c.repair.inside.start.number) c.repair_over.new.task c.args.beside.now.named (ap (λ (v : Sight). v.database) c.view-view.ensures.sight)
    c.in-Ok.ensures.runs)
    (c.in-Ok.ensures.records
    ∙ (ap (λ (x : CompiledScript). ((batch_of x).run c.repair.inside.call c.view-view.result.sight.database).records) c.args.beside.now.named ∙ ap (λ (v : Sight). ((batch s).run c.repair.inside.call v.database).records) c.view-view.ensures.sight))
    (c.in-Ok.ensures.executed ∙ ap (λ (cs : List Committed). executions c.repair.inside.task.log.records c.repair_over.new.task.log.records (changes_since cs)) c.as_slice-commits.ensures)).1

pub of-requires : goal.of-requires
of-requires g c =
    let s = g.N.Making.script in
    let w = g.N.Naming.word in
    leave_at s w (start_shown c.into_parts-seen.result.1) c.view-view.new.start.number c.in_ok-ready-in-Ok.ready.held.start.number (ap (λ (h : Holding). h.start.number) c.in_ok-ready-in-Ok.ensures)
    (leave_shown s w (start_shown c.into_parts-seen.result.1) c.view-view.result.sight c.repair_over.new.view.sight c.view-view.new.start.number c.in-Ok.ensures.view.same (ap (λ (s : Sight). s.start) c.view-view.ensures.sight ∙ sym (ap (λ (x : Started). x.number) c.view-view.ensures.same)) c.into_parts-seen.ensures.leave)

pub of-requires-in-Err : goal.of-requires-in-Err
of-requires-in-Err g c =
    leave_shown g.N.Making.script g.N.Naming.word (start_shown c.into_parts-seen-in-Err.result.1) c.view-view.result.sight c.repair_over.new.view.sight c.refused.new.self.number c.in-Err.ensures.view.same (ap (λ (s : Sight). s.start) c.view-view.ensures.sight ∙ sym (ap (λ (x : Started). x.number) c.view-view.ensures.same) ∙ sym c.refused.ensures.number) c.into_parts-seen-in-Err.ensures.leave

pub view-view-requires : goal.view-view-requires
view-view-requires g c = leave_at g.N.Making.script g.N.Naming.word (start_shown c.args.self.pin) c.args.self.repair.start.number c.repair.inside.start.number (ap (λ (r : Repairing). r.start.number) c.repair.view_is) c.args.self.leave
