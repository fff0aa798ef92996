use Rattle.std.proofs.Common.{◌≡◌, ◌<◌, Option, length, refl, sym, ap, subst, ◌∙◌, arith}
use Rattle.mv_view.specs.Viewing.{Sight}
use Rattle.mv_lawful.specs.Lawful.{Live}
use Rattle.mv_script.specs.declared.script.CompiledScript.{CompiledScript}
use Rattle.mv_script.specs.Scripts.{IsCompiledScript, batch_of}
use Rattle.mv_shards.specs.Scripts.{batch}
use Rattle.mv_core.specs.Calls.{IsLive, IsLiveCall}
use Rattle.mv_core.specs.Books.{Booked}
use Rattle.mv_core.proofs.Changed.{same_self}
use Rattle.mv_gate.specs.Gates.{IsSettledOrWhole, IsWhole, IsPastIn}
use Rattle.mv_gate.proofs.Schedulers.{scheduler_same}
use Rattle.mv_shards.specs.Histories.{tables_at}
use Rattle.mv_gate.proofs.Running.{runs_here}
use Rattle.mv_gate.proofs.Seeing.{asked_late, told_low, shown_in}
use Rattle.mv_gate.proofs.Holding.{renewed}
use Rattle.mv_gate.proofs.Leaving.{past_in}
use Rattle.mv_grace.specs.Rule.{Pin}
use Rattle.mv_shards.specs.Leaves.{IsLeave, start_shown}
use Rattle.mv_gate.proofs.Pins.{leave_at}
use Rattle.mv_gate.proofs.scheduler.Scheduler.renew.Goals as goal

pub new_task-requires-clause-script : goal.new_task-requires-clause-script
new_task-requires-clause-script g c = subst IsCompiledScript (sym c.args.beside.now.named) c.number-number.ensures.kept.script

pub new_task-requires-clause-number : goal.new_task-requires-clause-number
new_task-requires-clause-number g c =
    subst (λ (s : CompiledScript). c.args.call < length s.calls) (sym c.args.beside.now.named)
    (subst (λ (s : CompiledScript). c.args.call < length s.calls) c.self.invariant.script (subst (λ (b : Booked). c.args.call < length b.script.calls) (sym (c.self.view_is ∙ c.start_of.ensures.same)) c.requires.number))

pub run_all-requires : goal.run_all-requires
run_all-requires g c = λ k. (
  (refl, tt),
  (
    (subst IsCompiledScript (sym c.args.beside.now.named) c.number-number.ensures.kept.script),
    (
      (subst (λ (s : CompiledScript). c.args.call < length s.calls) (sym c.args.beside.now.named)
          (subst (λ (s : CompiledScript). c.args.call < length s.calls) c.self.invariant.script (subst (λ (b : Booked). c.args.call < length b.script.calls) (sym (c.self.view_is ∙ c.start_of.ensures.same)) c.requires.number))),
      (
        (shown_in g.N.Making.script c.in_ok-start.start.knows.seen c.args.call c.in_ok-start.start.number c.args.beside.now.script.now c.view-view.result.sight.database c.number-number.ensures.kept.script c.args.beside.now.named
            (ap (λ (s : Sight). s.database) c.view-view.ensures.sight)),
        (c.in_ok-task.ensures.runs c.view-view.result.sight.database),
      ),
    ),
  ),
)

pub refused-requires-clause-low : goal.refused-requires-clause-low
refused-requires-clause-low g c =
    told_low g.N.Making.script.options.horizon c.number-number.result _ c.run_all.new.view.sight c.in-Err.why
    (asked_late c.view-view.result.sight c.run_all.new.view.sight _ c.in-Err.why c.number-number.result c.in-Err.ensures.view refl (ap (λ (s : Sight). s.start) c.view-view.ensures.sight ∙ sym c.number-number.ensures.number))
    c.into_parts-seen-in-Err.ensures.low

pub returns-in-Ok-clause-whole : goal.returns-in-Ok-clause-whole
returns-in-Ok-clause-whole g c =
    let s = g.N.Making.script in
    let b : Booked = c.self.inside.book in
    let seen = c.in_ok-start.start.knows.seen in
    let n = c.in_ok-start.start.number in
    subst (λ (x : Booked). IsWhole x c.args.call c.run_all.new.task) (c.self.view_is ∙ c.start_of.ensures.same)
    (renewed s b c.args.call n seen c.run_all.new.task c.self.invariant.script c.self.invariant.sound c.self.invariant.round_starts (subst (λ (x : Booked). IsLiveCall x.schedule c.args.call) (sym (c.self.view_is ∙ c.start_of.ensures.same)) c.requires.live)
    (subst (λ (x : Booked). c.args.call < length x.script.calls) (sym (c.self.view_is ∙ c.start_of.ensures.same)) c.requires.number)
    (subst (λ (x : Booked). IsSettledOrWhole x c.args.call) (sym (c.self.view_is ∙ c.start_of.ensures.same)) (c.is_unrepaired.ensures c.if-is_unrepaired.false))
    (subst (λ (x : Booked). (l : Live) → IsLive x.schedule c.args.call l → n ≡ l.start) (sym (c.self.view_is ∙ c.start_of.ensures.same)) c.in_ok-start.ensures.number)
    (c.in_ok-start.ensures.seen ∙ ap (λ (x : Booked). x.schedule.order) (sym (c.self.view_is ∙ c.start_of.ensures.same)))
    (runs_here s c.args.beside.now.script.now c.args.call c.view-view.result.sight.database (tables_at s seen n) c.run_all.new.task c.args.beside.now.named (ap (λ (v : Sight). v.database) c.view-view.ensures.sight) c.run_all.ensures.runs) c.in-Ok.ensures.ended
    (c.in-Ok.ensures.records
    ∙ (ap (λ (x : CompiledScript). ((batch_of x).run c.args.call c.view-view.result.sight.database).records) c.args.beside.now.named ∙ ap (λ (v : Sight). ((batch s).run c.args.call v.database).records) c.view-view.ensures.sight))
    (let all = c.run_all.ensures.counts.executed in
    let none = ap length c.in_ok-task.ensures.records in
    let zero = c.in_ok-task.ensures.executed in
    omega (arith, all, none, zero)))

pub invariant_of-self : goal.invariant_of-self
invariant_of-self g c =
    scheduler_same g.N.Making.script c.self.inside.book c.self.inside.book c.self.inside.ledger c.refused.new.self c.self.inside.starts.items c.self.invariant (same_self c.self.inside.book) c.refused.ensures.kept c.refused.ensures.commits

pub invariant_of-self-in-Err : goal.invariant_of-self-in-Err
invariant_of-self-in-Err g c =
    scheduler_same g.N.Making.script c.self.inside.book c.self.inside.book c.self.inside.ledger c.refused.new.self c.self.inside.starts.items c.self.invariant (same_self c.self.inside.book) c.refused.ensures.kept c.refused.ensures.commits

pub returns-clause-past : goal.returns-clause-past
returns-clause-past g c =
    subst (λ (x : Booked). IsPastIn x c.args.call) (c.self.view_is ∙ c.start_of.ensures.same)
    (past_in g.N.Making.script c.self.inside.book c.args.call c.number-number.result c.self.inside.ledger.commits c.self.invariant.script c.self.invariant.commits
    (λ l at. c.number-number.ensures.number ∙ subst (λ (x : Booked). (m : Live) → IsLive x.schedule c.args.call m → c.in_ok-start.start.number ≡ m.start) (sym (c.self.view_is ∙ c.start_of.ensures.same)) c.in_ok-start.ensures.number l at) c.in_ok-refused-in-Err.ensures.past)

pub view-view-requires : goal.view-view-requires
view-view-requires g c =
    let live = c.requires.live in
    leave_at g.N.Making.script g.N.Naming.word (start_shown c.take.result) (live.0).start c.in_ok-start.start.number (c.in_ok-start.ensures.number live.0 live.1)
    (subst (λ (o : Option Pin). IsLeave g.N.Making.script g.N.Naming.word (start_shown o) (live.0).start) (sym c.take.ensures.value) (c.requires.own live.0 live.1))
