use Rattle.std.proofs.Common.{refl, rules, sym, subst}
use Rattle.mv_changes.specs.Commits.{changes_in}
use Rattle.mv_repair.specs.Repairing.{changes_since}
use Rattle.mv_script.specs.declared.script.CompiledScript.{CompiledScript}
use Rattle.mv_core.specs.Cores.{IsTaskFor, CanRepair}
use Rattle.mv_core.proofs.Stored.{can_repair}
use Rattle.mv_core.proofs.Taking.{task_runs, task_back, task_spent, task_repaired}
use Rattle.mv_core.proofs.tasks.repair_task.Goals as goal

pub repair_over-requires : goal.repair_over-requires
repair_over-requires g c = λ k. (
  (refl, tt),
  (
    search rules,
    (
      search rules,
      (
        (subst (λ (s : CompiledScript). IsTaskFor s c.args.call c.args.running.now.task) (sym c.script.ensures)
            (task_runs c.args.book.now.script c.args.call _ c.args.running.now.task (c.requires.call.task c.requires.call.live.0 c.requires.call.live.1).runs)),
        (let live = c.requires.call.live in
            subst (λ (s : CompiledScript). CanRepair s c.args.call c.args.running.now.task (changes_since c.since-since.result.now) (g.V.View.sight c.args.view.now).database) (sym c.script.ensures)
            (can_repair c.args.book.now.script c.args.book.now.schedule.order c.args.call live.0.start c.args.running.now.task (changes_in c.since-since.result.now) (g.V.View.sight c.args.view.now).database c.requires.call.script
            (c.requires.call.task live.0 live.1).runs c.requires.ended (c.since-since.ensures.changes live.0 live.1) c.requires.shows)),
      ),
    ),
  ),
)

pub returns-in-Err-clause-err : goal.returns-in-Err-clause-err
returns-in-Err-clause-err g c l live =
    task_spent c.args.book.now.script c.args.book.now.schedule.order c.args.call c.number-number.result l c.args.running.now c.spend.new.self (c.requires.call.task l live)
    (c.requires.whole l live) c.number-number.ensures c.spend.ensures.count c.spend.ensures.executed
    (task_back c.args.book.now.script c.args.call _ c.repair_over.new.task c.spend.new.self.task (subst (λ (s : CompiledScript). IsTaskFor s c.args.call c.repair_over.new.task) c.script.ensures c.repair_over.ensures.call) c.spend.ensures.begins)

pub returns-clause-ok : goal.returns-clause-ok
returns-clause-ok g c l live =
    task_repaired c.args.book.now c.args.call c.executed.result c.script.result.now (g.V.View.sight c.args.view.now) l c.args.running.now.task c.repair_over.new.task (changes_in c.since-since.result.now) c.script.ensures c.requires.shows
    (c.since-since.ensures.changes l live) (c.requires.whole l live) c.in_default.ensures.runs c.in_default.ensures.records c.in_default.ensures.executed c.executed.ensures
