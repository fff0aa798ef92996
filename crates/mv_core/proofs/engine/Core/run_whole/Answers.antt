use Rattle.std.proofs.Common.{refl, rules, ◌<◌, length, ap, sym, subst}
use Rattle.std.proofs.lemmas.Result.{err_from_is_err_and}
use Rattle.mv_script.specs.declared.script.CompiledScript.{CompiledScript}
use Rattle.mv_core.specs.Books.{Booked, IsNotStale, AreRecordsOf}
use Rattle.mv_core.proofs.Taking.{call_within, records_back}
use Rattle.mv_core.proofs.Stored.{shows_start, fresh_start, database_shown}
use Rattle.mv_core.proofs.Changed.{live_in, same_self, refused_same, book_in}
use Rattle.mv_core.proofs.engine.Core.run_whole.Goals as goal

pub whole_task-requires : goal.whole_task-requires
whole_task-requires c = λ k. (
  (refl, tt),
  (
    search rules,
    (
      (subst (λ (s : CompiledScript). c.args.call < length s.calls) (sym c.script.ensures)
          (call_within c.self.inside.book.script c.self.inside.book.schedule c.self.inside.tasks.items c.args.call c.self.invariant.0.tasks (live_in c.self.inside.book c.args.self.now.book c.args.call (ap book_in c.self.view_is) c.requires))),
      (let b : Booked = c.self.inside.book in
          let live = live_in b c.args.self.now.book c.args.call (ap book_in c.self.view_is) c.requires in
          let fresh = subst (λ (b : Booked). IsNotStale b c.args.call) (sym (ap book_in c.self.view_is)) c.in_ok-refuse_stale.ensures.fresh in
          database_shown b c.args.call live.0.start c.script.result.now c.new-view.result c.self.invariant.0.stored.script c.script.ensures
          (shows_start b c.self.inside.store c.args.call c.start.result c.new-view.result c.self.invariant.0.stored fresh c.start.ensures.value c.start.ensures.past c.new-view.ensures live.0 live.1)),
    ),
  ),
)

pub returns-clause-records : goal.returns-clause-records
returns-clause-records c =
    let b : Booked = c.self.inside.book in
    let fresh = subst (λ (b : Booked). IsNotStale b c.args.call) (sym (ap book_in c.self.view_is)) c.in_ok-refuse_stale.ensures.fresh in
    subst (λ (b : Booked). AreRecordsOf b c.args.call c.in_ok-task.task.log.records) (ap book_in c.self.view_is)
    (λ l live. records_back b c.args.call l.start c.script.result.now c.new-view.result c.in_ok-task.task.log.records c.script.ensures
    (shows_start b c.self.inside.store c.args.call c.start.result c.new-view.result c.self.invariant.0.stored fresh c.start.ensures.value c.start.ensures.past c.new-view.ensures l live) c.in_ok-task.ensures.records)

pub returns-clause-number : goal.returns-clause-number
returns-clause-number c =
    subst (λ (b : Booked). c.args.call < length b.script.calls) (ap book_in c.self.view_is)
    (call_within c.self.inside.book.script c.self.inside.book.schedule c.self.inside.tasks.items c.args.call c.self.invariant.0.tasks (live_in c.self.inside.book c.args.self.now.book c.args.call (ap book_in c.self.view_is) c.requires))

pub returns-in_err-task-clause-refused : goal.returns-in_err-task-clause-refused
returns-in_err-task-clause-refused c =
    let b : Booked = c.self.inside.book in
    let live = live_in b c.args.self.now.book c.args.call (ap book_in c.self.view_is) c.requires in
    let fresh = subst (λ (b : Booked). IsNotStale b c.args.call) (sym (ap book_in c.self.view_is)) c.in_ok-refuse_stale.ensures.fresh in
    let p = err_from_is_err_and c.from_residual-in_err-task.result c.from_residual-in_err-task.ensures.1 in
    rw (p.1, p.2) (refused_same c.args.call c.new-view.result c.whole_task.new.view _ c.args.self.now.book c.args.self.now.book
    (fresh_start b c.self.inside.store c.args.call c.start.result c.new-view.result c.self.invariant.0.stored fresh live c.start.ensures.value c.new-view.ensures) c.in_err-task.ensures.view.may_refuse
    (same_self c.args.self.now.book))
