use Rattle.std.proofs.Common.{List, sym, subst}
use Rattle.mv_record.specs.declared.record.Record.{Record}
use Rattle.mv_script.specs.Scripts.{IsCompiledScript}
use Rattle.mv_changes.specs.declared.recent.Committed.{Committed}
use Rattle.mv_why.specs.Causes.{changes_since}
use Rattle.mv_why.specs.Laws.{AreFullRuns}
use Rattle.mv_explain.proofs.Repairing.{full_runs}
use Rattle.mv_journal_tests.specs.declared.repairs.Before.{Before}
use Rattle.mv_journal_tests.proofs.repairs.make_repair.Goals as goal

pub causes-requires : goal.causes-requires
causes-requires c =
    let before : Before = c.in_ok-before.before in
    subst (λ (rs : List Record). AreFullRuns rs c.records_after-fresh.result (changes_since c.as_slice.result.now)) (sym c.records-old.ensures)
    (subst (λ (cs : List Committed). AreFullRuns before.task.log.records c.records_after-fresh.result (changes_since cs)) (sym c.as_slice.ensures)
    (full_runs c.args.core.now.book c.args.call before.task.log.records c.records_after-fresh.result before.since c.requires.script c.in_ok-before.ensures
    (c.records_after-fresh.ensures c.args.core.now.book c.in-Ok.ensures.taken)))

pub returns : goal.returns
returns c = subst IsCompiledScript (sym c.in-Ok.ensures.taken.script) c.requires.script
