use Rattle.std.proofs.Common.{◌≡◌, ap, sym, subst, ◌∙◌}
use Rattle.std.specs.Prelude.{IfOk}
use Rattle.mv_serial.specs.Changing.{changed_by}
use Rattle.mv_eval.specs.TableAfter.{tables_left, reply_in}
use Rattle.mv_serial.proofs.calls.run_procedure.Goals as goal

pub returns-clause-tables : goal.returns-clause-tables
returns-clause-tables c =
    let ran = rw (c.in-Err-Ended.field-0-is, c.as_slice-infos.ensures, c.as_slice-body.ensures, c.new-lines.ensures, c.in_ok-env.ensures) at c.in-Err-Ended.ensures.does in
    let keeps = rw c.in-Err-Ended.field-0-is at c.in-Err-Ended.ensures.undo in
    let back = keeps ∙ ap (λ undo. changed_by undo c.args.tables) c.new-undo.ensures in
    subst (λ o. IfOk c.rolled_back.result (λ l. l.tables ≡ tables_left c.args.tables o)) (sym ran)
    (subst (λ db. IfOk c.rolled_back.result (λ l. l.tables ≡ db)) back c.rolled_back.ensures.tables)

pub returns-clause-reply : goal.returns-clause-reply
returns-clause-reply c =
    let ran = rw (c.in-Err-Ended.field-0-is, c.as_slice-infos.ensures, c.as_slice-body.ensures, c.new-lines.ensures, c.in_ok-env.ensures) at c.in-Err-Ended.ensures.does in
    subst (λ o. IfOk c.rolled_back.result (λ l. l.reply ≡ reply_in o)) (sym ran) (rw c.in-Err-Ended.field-0-is at c.rolled_back.ensures.reply)
