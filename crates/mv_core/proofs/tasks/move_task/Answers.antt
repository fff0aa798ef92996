use Rattle.std.proofs.Common.{rules, arith, Some, length, refl, ap, sym, ◌∙◌}
use Rattle.mv_journal.specs.declared.event.Event.TheVariants.{M}
use Rattle.mv_journal.specs.declared.outcome.Mark.TheVariants.{Moved}
use Rattle.mv_lawful.specs.Lawful.{Schedule, again}
use Rattle.mv_core.proofs.Stored.{database_shown, last_records_on}
use Rattle.mv_core.proofs.Taking.{runs_back, records_back}
use Rattle.mv_core.proofs.Moving.{live_moved, due_moved}
use Rattle.mv_core.proofs.Changed.{live_now, made_after, made_before, due_made, room_less}
use Rattle.mv_core.proofs.tasks.move_task.Goals as goal

pub whole_task-requires : goal.whole_task-requires
whole_task-requires g c = λ k. ((refl, tt), (search rules, (search rules, (database_shown c.args.book.now c.args.call (length c.args.book.now.schedule.order) c.script.result.now (g.V.View.sight c.args.view.now) c.requires.script c.script.ensures c.requires.shows))))

pub restart-requires-clause-room : goal.restart-requires-clause-room
restart-requires-clause-room g c = room_less c.reserve.new.self c.args.call 2 1 (omega arith) c.in_ok-reserve.ensures.room

pub settle-requires-clause-live : goal.settle-requires-clause-live
settle-requires-clause-live g c =
    let live = live_now c.args.book.now c.args.book.now c.reserve.new.self c.args.call refl c.requires.live c.reserve.ensures.same in
    (again (length c.reserve.new.self.schedule.order) Moved live.0, live_moved c.args.call c.reserve.new.self c.restart.new.self live.0 live.1 c.restart.ensures.made)

pub settle-requires-clause-number : goal.settle-requires-clause-number
settle-requires-clause-number g c none =
    let live = live_now c.args.book.now c.args.book.now c.reserve.new.self c.args.call refl c.requires.live c.reserve.ensures.same in
    let whole = records_back c.args.book.now c.args.call (length c.args.book.now.schedule.order) c.script.result.now (g.V.View.sight c.args.view.now) c.in_ok-task.task.log.records c.script.ensures c.requires.shows c.in_ok-task.ensures.records in
    let same = last_records_on c.args.book.now c.reserve.new.self c.args.call c.in_ok-task.task.log.records c.reserve.ensures.same.script (ap (λ (s : Schedule). s.order) c.reserve.ensures.same.schedule) whole in
    due_made Moved c.reserve.new.self c.restart.new.self c.args.call c.in_ok-task.task.executed c.restart.ensures.made
    (due_moved c.reserve.new.self c.args.call live.0 live.1 ∙ ap Some (sym (ap length same) ∙ sym c.in_ok-task.ensures.executed))

pub returns-clause-made : goal.returns-clause-made
returns-clause-made g c =
    made_after (M c.args.call) c.args.book.now c.reserve.new.self c.settle.new.self c.reserve.ensures.same
    (made_before (M c.args.call) c.reserve.new.self c.restart.new.self c.settle.new.self c.restart.ensures.made c.settle.ensures.same)

pub returns-clause-runs : goal.returns-clause-runs
returns-clause-runs g c = runs_back c.args.book.now c.args.call (length c.args.book.now.schedule.order) c.script.result.now (g.V.View.sight c.args.view.now) c.in_ok-task.task c.script.ensures c.requires.shows c.in_ok-task.ensures.runs

pub returns-clause-records : goal.returns-clause-records
returns-clause-records g c = records_back c.args.book.now c.args.call (length c.args.book.now.schedule.order) c.script.result.now (g.V.View.sight c.args.view.now) c.in_ok-task.task.log.records c.script.ensures c.requires.shows c.in_ok-task.ensures.records
