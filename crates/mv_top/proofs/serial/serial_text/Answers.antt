use Rattle.std.proofs.Common.{ap, sym, subst, ◌∙◌}
use Rattle.mv_values.specs.Counts.{first_numbers}
use Rattle.mv_eval.specs.TableAfter.{IsOrder}
use Rattle.mv_top.proofs.Serials.{is_order, text_is}
use Rattle.mv_top.proofs.serial.serial_text.Goals as goal

pub run_alone-requires-clause-order : goal.run_alone-requires-clause-order
run_alone-requires-clause-order c =
    subst (IsOrder c.args.program.now) (sym (c.as_slice.ensures ∙ (c.in_ok-order.ensures ∙ ap first_numbers c.len.ensures))) (is_order c.args.program.now)

pub returns : goal.returns
returns c =
    text_is c.args.program.now c.as_slice.result.now c.in_ok-replies.field-0.replies c.in_ok-replies.field-0.tables c.in_ok-render_serial.field-0
    (c.as_slice.ensures ∙ (c.in_ok-order.ensures ∙ ap first_numbers c.len.ensures))
    c.in_ok-replies.ensures.len c.in_ok-replies.ensures.replies c.in_ok-replies.ensures.tables c.in_ok-render_serial.ensures
