use Rattle.std.proofs.Common.{◌++◌, ◌∷◌, [], ℕ, length, slice_get, option_to_list, ap, ◌∙◌, take, arith}
use Rattle.std.proofs.lemmas.List.{length_push}
use Rattle.mv_log.specs.Logged.{Logged}
use Rattle.mv_exec.specs.Recording.{closed, cut}
use Rattle.mv_exec.specs.declared.task.Task.{Task}
use Rattle.mv_exec.specs.Steps.{changed_by, with_log}
use Rattle.mv_exec.proofs.Adding.{get_last}
use Rattle.mv_exec.proofs.Logs.{cut_closed, cut_kept, cut_past, some_record}
use Rattle.mv_exec.proofs.Stepping.{undone}
use Rattle.mv_exec.proofs.add.push_record.Goals as goal

pub make_changes_of-requires : goal.make_changes_of-requires
make_changes_of-requires c =
    let some = some_record c.args.task.now.log c.args.at c.args.origin c.requires.origin in
    omega (arith, ap (λ (l : Logged). length l.records) (c.in_ok-add_record.ensures.ok some.0 some.1), length_push c.args.task.now.log.records some.0, c.len-number.ensures)

pub returns-in-Ok-clause-ok : goal.returns-in-Ok-clause-ok
returns-in-Ok-clause-ok c = λ proc s r tells is.
    let log = c.in_ok-add_record.ensures.ok r is in
    let there = ap (λ (l : Logged). slice_get l.records c.len-number.result) log ∙ (ap (slice_get (c.args.task.now.log.records ++ r ∷ [])) c.len-number.ensures ∙ get_last c.args.task.now.log.records r) in
    c.in-Ok.ensures.ok proc s r tells there
    ∙ (ap (λ l. changed_by (with_log c.args.task.now l) c.len-number.result s r (option_to_list c.args.inner)) log
    ∙ ap (λ (n : ℕ). changed_by (with_log c.args.task.now (closed c.args.task.now.log c.args.origin r)) n s r (option_to_list c.args.inner)) c.len-number.ensures)

pub returns-in-Err-clause-err : goal.returns-in-Err-clause-err
returns-in-Err-clause-err c =
    let some = some_record c.args.task.now.log c.args.at c.args.origin c.requires.origin in
    let log = c.in_ok-add_record.ensures.ok some.0 some.1 in
    let less = c.truncate.ensures ∙ ap (cut c.len-number.result) (ap (λ (u : Task). u.log) c.in-Err.ensures.err.rest) in
    undone c.args.origin c.args.task.now c.add_record.new.log c.truncate.new.self c.make_changes_of.new.task c.truncate-in-Err.new.self c.in-Err.ensures.err
    (cut_closed c.args.task.now.log c.add_record.new.log c.truncate.new.self c.args.origin some.0 c.len-number.result log less c.len-number.ensures)
    (cut_past c.args.task.now.log c.add_record.new.log c.truncate.new.self c.args.origin some.0 c.len-number.result log less)
    (cut_kept c.args.task.now.log c.add_record.new.log c.truncate.new.self c.args.origin some.0 c.len-number.result log less)
    (c.truncate-in-Err.ensures ∙ ap (λ n. take n c.make_changes_of.new.task.frames) c.len-depth.ensures)
