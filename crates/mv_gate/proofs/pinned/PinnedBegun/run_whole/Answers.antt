use Rattle.std.proofs.Common.{◌<◌, length, refl, sym, ap, subst, ◌∙◌}
use Rattle.mv_view.specs.Viewing.{Sight}
use Rattle.mv_script.specs.declared.script.CompiledScript.{CompiledScript}
use Rattle.mv_script.specs.Scripts.{IsCompiledScript}
use Rattle.mv_shards.specs.Histories.{tables_at}
use Rattle.mv_shards.specs.Reads.{Started}
use Rattle.mv_gate.specs.Gates.{Waiting, Holding}
use Rattle.mv_gate.proofs.Seeing.{asked_late, told_low, shown_in}
use Rattle.mv_gate.proofs.Running.{runs_here, held_whole}
use Rattle.mv_shards.specs.Leaves.{start_shown}
use Rattle.mv_gate.proofs.Pins.{leave_at, leave_shown}
use Rattle.mv_gate.proofs.pinned.PinnedBegun.run_whole.Goals as goal

pub new_task-requires-clause-script : goal.new_task-requires-clause-script
new_task-requires-clause-script g c = subst IsCompiledScript (sym c.args.beside.now.named) c.begun.invariant.sound

pub new_task-requires-clause-number : goal.new_task-requires-clause-number
new_task-requires-clause-number g c = subst (λ (s : CompiledScript). c.begun.inside.call < length s.calls) (sym c.args.beside.now.named) c.begun.invariant.there

pub run_all-requires : goal.run_all-requires
run_all-requires g c = λ k. (
  (refl, tt),
  (
    (subst IsCompiledScript (sym c.args.beside.now.named) c.begun.invariant.sound),
    (
      (subst (λ (s : CompiledScript). c.begun.inside.call < length s.calls) (sym c.args.beside.now.named) c.begun.invariant.there),
      (
        (shown_in g.N.Making.script c.begun.inside.start.knows.seen c.begun.inside.call c.begun.inside.start.number c.args.beside.now.script.now c.view-view.result.sight.database c.begun.invariant.sound c.args.beside.now.named
            (ap (λ (s : Sight). s.database) c.view-view.ensures.sight)),
        (c.in_ok-task.ensures.runs c.view-view.result.sight.database),
      ),
    ),
  ),
)

pub refused-requires-clause-low : goal.refused-requires-clause-low
refused-requires-clause-low g c =
    told_low g.N.Making.script.options.horizon c.view-view.new.start.number _ c.run_all.new.view.sight c.in-Err.why
    (asked_late c.view-view.result.sight c.run_all.new.view.sight _ c.in-Err.why c.view-view.new.start.number c.in-Err.ensures.view refl
    (ap (λ (s : Sight). s.start) c.view-view.ensures.sight ∙ sym (ap (λ (x : Started). x.number) c.view-view.ensures.same)))
    c.into_parts-seen-in-Err.ensures.low

pub invariant_of-held : goal.invariant_of-held
invariant_of-held g c =
    let s = g.N.Making.script in
    held_whole s c.begun.inside.call c.view-view.new.start c.in_ok-task.task c.run_all.new.task c.begun.invariant.there c.begun.invariant.sound c.number-number.ensures.kept.past c.in_ok-task.ensures.records c.in_ok-task.ensures.executed c.run_all.ensures.counts
    (runs_here s c.args.beside.now.script.now c.begun.inside.call c.view-view.result.sight.database (tables_at s c.view-view.new.start.knows.seen c.view-view.new.start.number) c.run_all.new.task c.args.beside.now.named
    (ap (λ (v : Sight). v.database) c.view-view.ensures.sight ∙ ap (λ (x : Started). tables_at s x.knows.seen x.number) (sym c.view-view.ensures.same)) c.run_all.ensures.runs)

pub of-requires : goal.of-requires
of-requires g c =
    let s = g.N.Making.script in
    let w = g.N.Naming.word in
    leave_at s w (start_shown c.into_parts-seen.result.1) c.view-view.new.start.number c.in_ok-ready-in-Ok.ready.held.start.number (ap (λ (h : Holding). h.start.number) c.in_ok-ready-in-Ok.ensures)
    (leave_shown s w (start_shown c.into_parts-seen.result.1) c.view-view.result.sight c.run_all.new.view.sight c.view-view.new.start.number c.in-Ok.ensures.view.same (ap (λ (s : Sight). s.start) c.view-view.ensures.sight ∙ sym (ap (λ (x : Started). x.number) c.view-view.ensures.same)) c.into_parts-seen.ensures.leave)

pub of-requires-in-Err : goal.of-requires-in-Err
of-requires-in-Err g c =
    leave_shown g.N.Making.script g.N.Naming.word (start_shown c.into_parts-seen-in-Err.result.1) c.view-view.result.sight c.run_all.new.view.sight c.refused.new.self.number c.in-Err.ensures.view.same (ap (λ (s : Sight). s.start) c.view-view.ensures.sight ∙ sym (ap (λ (x : Started). x.number) c.view-view.ensures.same) ∙ sym c.refused.ensures.number) c.into_parts-seen-in-Err.ensures.leave

pub view-view-requires : goal.view-view-requires
view-view-requires g c = leave_at g.N.Making.script g.N.Naming.word (start_shown c.args.self.pin) c.args.self.begun.start.number c.begun.inside.start.number (ap (λ (w : Waiting). w.start.number) c.begun.view_is) c.args.self.leave
