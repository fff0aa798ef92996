use Rattle.std.proofs.Common.{◌<◌, Option, length, refl, sym, ap, subst, ◌∙◌}
use Rattle.mv_values.specs.Tables.{Tables}
use Rattle.mv_view.specs.Viewing.{Sight}
use Rattle.mv_script.specs.declared.script.CompiledScript.{CompiledScript}
use Rattle.mv_script.specs.Scripts.{IsCompiledScript}
use Rattle.mv_shards.specs.Scripts.{script_in}
use Rattle.mv_core.specs.Cores.{RunsOn}
use Rattle.mv_lawful.specs.Rounds.{IsPast}
use Rattle.mv_shards.specs.Reads.{Started}
use Rattle.mv_grace.specs.Rule.{Pin}
use Rattle.mv_shards.specs.Leaves.{IsLeave, start_shown}
use Rattle.mv_gate.specs.Gates.{Holding}
use Rattle.mv_gate.proofs.Seeing.{asked_late, told_low, shown_in}
use Rattle.mv_gate.proofs.Running.{runs_here, held_stepped, held_refused}
use Rattle.mv_gate.proofs.Pins.{leave_at, leave_shown}
use Rattle.mv_gate.proofs.held.Held.step.Goals as goal

pub run_next-requires : goal.run_next-requires
run_next-requires g c = λ k. (
  (refl, tt),
  (
    (subst IsCompiledScript (sym c.args.beside.now.named) c.self.invariant.sound),
    (
      (subst (λ (s : CompiledScript). c.self.inside.call < length s.calls) (sym c.args.beside.now.named) c.self.invariant.there),
      (
        (shown_in g.N.Making.script c.self.inside.start.knows.seen c.self.inside.call c.self.inside.start.number c.args.beside.now.script.now c.view-view.result.sight.database c.self.invariant.sound c.args.beside.now.named
            (ap (λ (s : Sight). s.database) c.view-view.ensures.sight)),
        (subst (λ (s : CompiledScript). RunsOn s c.self.inside.call c.view-view.result.sight.database c.self.inside.task) (sym c.args.beside.now.named)
            (subst (λ (db : Tables). RunsOn (script_in g.N.Making.script) c.self.inside.call db c.self.inside.task) (sym (ap (λ (s : Sight). s.database) c.view-view.ensures.sight)) c.self.invariant.runs)),
      ),
    ),
  ),
)

pub refused-requires-clause-low : goal.refused-requires-clause-low
refused-requires-clause-low g c =
    told_low g.N.Making.script.options.horizon c.view-view.new.start.number _ c.run_next.new.view.sight c.in-Err.why
    (asked_late c.view-view.result.sight c.run_next.new.view.sight _ c.in-Err.why c.view-view.new.start.number c.in-Err.ensures.view refl
    (ap (λ (s : Sight). s.start) c.view-view.ensures.sight ∙ sym (ap (λ (x : Started). x.number) c.view-view.ensures.same)))
    c.into_parts-seen-in-Err.ensures.low

pub invariant_of-self : goal.invariant_of-self
invariant_of-self g c =
    held_stepped g.N.Making.script (record { call = c.self.inside.call; start = c.self.inside.start; from = c.self.inside.from; task = c.self.inside.task }) c.view-view.new.start c.run_next.new.task c.self.invariant c.view-view.ensures.same (ap (λ (h : Holding). h.task.ended) c.self.view_is ∙ c.requires.more) (c.in-Ok.ensures.ran (ap (λ (h : Holding). h.task.ended) c.self.view_is ∙ c.requires.more))
    (runs_here g.N.Making.script c.args.beside.now.script.now c.self.inside.call c.view-view.result.sight.database _ c.run_next.new.task c.args.beside.now.named (ap (λ (v : Sight). v.database) c.view-view.ensures.sight) c.run_next.ensures.runs)

pub invariant_of-self-in_err-refused-in-Err : goal.invariant_of-self-in_err-refused-in-Err
invariant_of-self-in_err-refused-in-Err g c =
    held_refused g.N.Making.script (record { call = c.self.inside.call; start = c.self.inside.start; from = c.self.inside.from; task = c.self.inside.task }) c.view-view.new.start c.refused.new.self c.run_next.new.task c.self.invariant c.view-view.ensures.same c.refused.ensures.number c.refused.ensures.seen (ap (λ (h : Holding). h.task.ended) c.self.view_is ∙ c.requires.more)
    c.in-Err.ensures.err (runs_here g.N.Making.script c.args.beside.now.script.now c.self.inside.call c.view-view.result.sight.database _ c.run_next.new.task c.args.beside.now.named (ap (λ (v : Sight). v.database) c.view-view.ensures.sight) c.run_next.ensures.runs)

pub invariant_of-self-in-Err : goal.invariant_of-self-in-Err
invariant_of-self-in-Err g c =
    held_refused g.N.Making.script (record { call = c.self.inside.call; start = c.self.inside.start; from = c.self.inside.from; task = c.self.inside.task }) c.view-view.new.start c.refused.new.self c.run_next.new.task c.self.invariant c.view-view.ensures.same c.refused.ensures.number c.refused.ensures.seen (ap (λ (h : Holding). h.task.ended) c.self.view_is ∙ c.requires.more)
    c.in-Err.ensures.err (runs_here g.N.Making.script c.args.beside.now.script.now c.self.inside.call c.view-view.result.sight.database _ c.run_next.new.task c.args.beside.now.named (ap (λ (v : Sight). v.database) c.view-view.ensures.sight) c.run_next.ensures.runs)

pub returns-in_ok-refused-in-Err-clause-past : goal.returns-in_ok-refused-in-Err-clause-past
returns-in_ok-refused-in-Err-clause-past g c isnt = subst (λ n. IsPast g.N.Making.script.options.horizon n (length c.refused.new.self.knows.seen)) (sym c.refused.ensures.number) c.in_ok-refused-in-Err.ensures.past

pub returns-in-Ok-clause-leave : goal.returns-in-Ok-clause-leave
returns-in-Ok-clause-leave g c =
    leave_shown g.N.Making.script g.N.Naming.word (start_shown c.into_parts-seen.result.1) c.view-view.result.sight c.run_next.new.view.sight c.view-view.new.start.number c.in-Ok.ensures.view.same (ap (λ (s : Sight). s.start) c.view-view.ensures.sight ∙ sym (ap (λ (x : Started). x.number) c.view-view.ensures.same)) c.into_parts-seen.ensures.leave

pub returns-in_err-refused-in-Err-clause-leave : goal.returns-in_err-refused-in-Err-clause-leave
returns-in_err-refused-in-Err-clause-leave g c =
    leave_shown g.N.Making.script g.N.Naming.word (start_shown c.into_parts-seen-in-Err.result.1) c.view-view.result.sight c.run_next.new.view.sight c.refused.new.self.number c.in-Err.ensures.view.same (ap (λ (s : Sight). s.start) c.view-view.ensures.sight ∙ sym (ap (λ (x : Started). x.number) c.view-view.ensures.same) ∙ sym c.refused.ensures.number) c.into_parts-seen-in-Err.ensures.leave

pub returns-in_ok-refused-in-Err-clause-leave : goal.returns-in_ok-refused-in-Err-clause-leave
returns-in_ok-refused-in-Err-clause-leave g c =
    leave_shown g.N.Making.script g.N.Naming.word (start_shown c.into_parts-seen-in-Err.result.1) c.view-view.result.sight c.run_next.new.view.sight c.refused.new.self.number c.in-Err.ensures.view.same (ap (λ (s : Sight). s.start) c.view-view.ensures.sight ∙ sym (ap (λ (x : Started). x.number) c.view-view.ensures.same) ∙ sym c.refused.ensures.number) c.into_parts-seen-in-Err.ensures.leave

pub view-view-requires : goal.view-view-requires
view-view-requires g c =
    leave_at g.N.Making.script g.N.Naming.word (start_shown c.take.result) c.args.self.now.start.number c.self.inside.start.number (ap (λ (h : Holding). h.start.number) c.self.view_is)
    (subst (λ (o : Option Pin). IsLeave g.N.Making.script g.N.Naming.word (start_shown o) c.args.self.now.start.number) (sym c.take.ensures.value) c.requires.leave)
