use Rattle.std.proofs.Common.{◌++◌, Option, ap, subst, ◌∙◌}
use Rattle.std.specs.Prelude.{IfSome}
use Rattle.mv_core.specs.Books.{Booked}
use Rattle.mv_explain.specs.declared.before.Before.{Before}
use Rattle.mv_explain.specs.Explained.{AreBefore}
use Rattle.mv_explain.proofs.Repairing.{full_runs, repair_lines}
use Rattle.mv_explain.proofs.explain.write_repair_event.Goals as goal

pub write_lines-requires : goal.write_lines-requires
write_lines-requires c =
    let b : Booked = c.args.core.now.book in
    let before : Before = c.in-Some.before in
    let are : AreBefore b c.args.call before.task.log.records before.since =
    subst (λ (o : Option Before). IfSome o (λ (x : Before). AreBefore b c.args.call x.task.log.records x.since)) c.in-Some.is c.in_ok-before.ensures.some in
    full_runs b c.args.call before.task.log.records c.records_after-fresh.result before.since c.requires.script are (c.records_after-fresh.ensures b c.in_ok-event.ensures.taken)

pub returns : goal.returns
returns c =
    let b : Booked = c.args.core.now.book in
    let before : Before = c.in-Some.before in
    let are : AreBefore b c.args.call before.task.log.records before.since =
    subst (λ (o : Option Before). IfSome o (λ (x : Before). AreBefore b c.args.call x.task.log.records x.since)) c.in-Some.is c.in_ok-before.ensures.some in (
      c.in_ok-event.ensures.taken,
      c.in_ok-write_lines.ensures
          ∙ ap (λ l. c.args.text.now ++ l)
          (repair_lines c.args.tables.now c.args.event.now b c.args.call c.commits-start.result before.task.log.records c.records_after-fresh.result before.since c.requires.repair are c.commits-start.ensures
          (c.records_after-fresh.ensures b c.in_ok-event.ensures.taken)),
    )
