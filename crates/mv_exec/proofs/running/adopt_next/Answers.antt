use Rattle.std.proofs.Common.{◌≡◌, ◌+◌, Some, slice_get, refl, ap, ◌∙◌}
use Rattle.mv_record.specs.declared.record.Record.{Record}
use Rattle.mv_log.specs.Logged.{Logged}
use Rattle.mv_exec.specs.declared.recording.Origin.TheVariants.{Kept}
use Rattle.mv_exec.specs.Recording.{IsAtRest, IsRecordOf, closed}
use Rattle.mv_exec.specs.Steps.{HasAddedNext, HasAddedRecord}
use Rattle.mv_exec.proofs.Adopting.{added_before}
use Rattle.mv_exec.proofs.Fronts.{on_ok}
use Rattle.mv_exec.proofs.Logs.{closed_rests, opened_may, some_record}
use Rattle.mv_exec.proofs.running.adopt_next.Goals as goal

pub add-requires-clause-origin : goal.add-requires-clause-origin
add-requires-clause-origin c = opened_may c.args.task.now.log c.advance.new.task.log c.args.old c.advance.ensures.log c.requires.rest.blank c.requires.there c.requires.rises

pub returns-clause-added : goal.returns-clause-added
returns-clause-added c =
    on_ok c.add.result ((r : Record) → IsRecordOf c.advance.new.task.log c.in_ok-at.at (Kept c.args.old) r → HasAddedRecord c.args.graph.now.procedure c.advance.new.task r c.add.new.task)
    ((given : Record) → slice_get c.args.task.now.log.past c.args.old ≡ Some given → HasAddedNext c.args.graph.now.procedure c.args.task.now given c.add.new.task)
    (λ added given there.
    let log : Logged = c.advance.new.task.log in
    let r : Record = record given { spot = record { statement = c.in_ok-at.at.statement; turns = log.turns }; parent = c.in_ok-at.at.parent; reads = log.reads } in
    record {
      next = r;
      content = refl;
      ahead = c.in_ok-at.ensures.next;
      added = added_before c.args.graph.now.procedure c.args.task.now c.advance.new.task r c.add.new.task c.advance.ensures.same
          (added r (given, (ap (λ (l : Logged). slice_get l.past c.args.old) c.advance.ensures.log ∙ there, refl)));
    })
    c.add.ensures.added

pub returns-clause-rest : goal.returns-clause-rest
returns-clause-rest c =
    let some = some_record c.advance.new.task.log c.in_ok-at.at (Kept c.args.old)
    (opened_may c.args.task.now.log c.advance.new.task.log c.args.old c.advance.ensures.log c.requires.rest.blank c.requires.there c.requires.rises) in
    on_ok c.add.result ((r : Record) → IsRecordOf c.advance.new.task.log c.in_ok-at.at (Kept c.args.old) r → c.add.new.task.log ≡ closed c.advance.new.task.log (Kept c.args.old) r) (IsAtRest c.add.new.task.log)
    (λ logs. closed_rests c.advance.new.task.log c.add.new.task.log (Kept c.args.old) some.0 (logs some.0 some.1)) c.add.ensures.log

pub returns-clause-kept : goal.returns-clause-kept
returns-clause-kept c =
    let some = some_record c.advance.new.task.log c.in_ok-at.at (Kept c.args.old)
    (opened_may c.args.task.now.log c.advance.new.task.log c.args.old c.advance.ensures.log c.requires.rest.blank c.requires.there c.requires.rises) in
    on_ok c.add.result ((r : Record) → IsRecordOf c.advance.new.task.log c.in_ok-at.at (Kept c.args.old) r → c.add.new.task.log ≡ closed c.advance.new.task.log (Kept c.args.old) r) (c.add.new.task.log.kept ≡ c.args.old + 1)
    (λ logs. ap (λ (l : Logged). l.kept) (logs some.0 some.1)) c.add.ensures.log
