use Rattle.std.proofs.lemmas.Result.{on_ok_weaker}
use Rattle.mv_print.proofs.Trees.{one_written, two_written}
use Rattle.mv_print.proofs.expr.+write_expr.Goals as goal

pub returns-in_ok-write_expr-in-One : goal.returns-in_ok-write_expr-in-One
returns-in_ok-write_expr-in-One t c =
    let b = rw (c.get.ensures, c.one_level.ensures) at c.in_ok-write_expr-in-One.ensures in
    on_ok_weaker c.write_one_tail.result
    (λ h. one_written c.args.expr.now c.in-One.op c.in-One.operand c.args.outer c.args.text.now c.write_one_lead.new.text c.write_expr.new.text c.write_one_tail.new.text c.in-One.is
    c.in_ok-write_one_lead-in-One.ensures b h)
    c.write_one_tail.ensures

pub returns-in_ok-write_expr-in-Two-2 : goal.returns-in_ok-write_expr-in-Two-2
returns-in_ok-write_expr-in-Two-2 t c =
    let l = rw (c.get-in-Two.ensures, c.left_level.ensures) at c.in_ok-write_expr-in-Two.ensures in
    let m = rw c.two_middle.ensures at c.in_ok-write_key-in-Two.ensures in
    let r = rw (c.get-in-Two-2.ensures, c.right_level.ensures) at c.in_ok-write_expr-in-Two-2.ensures in
    on_ok_weaker c.write_two_tail.result
    (λ h. two_written c.args.expr.now c.in-Two.op c.in-Two.left c.in-Two.right c.args.outer c.args.text.now c.write_two_lead.new.text c.write_expr-in-Two.new.text c.write_key-in-Two.new.text
    c.write_expr-in-Two-2.new.text c.write_two_tail.new.text c.in-Two.is c.in_ok-write_two_lead-in-Two.ensures l m r h)
    c.write_two_tail.ensures
