use Rattle.std.proofs.Common.{sym, ap, ◌∙◌}
use Rattle.std.specs.Ordering.{is_eq}
use Rattle.mv_index.proofs.Forms.{one_gone, one_left}
use Rattle.mv_index.proofs.keys.take_key.Goals as goal

pub returns-then-is_eq : goal.returns-then-is_eq
returns-then-is_eq c k = one_gone c.args.form.now c.in-One.only c.args.key.now k c.in-One.is (sym (c.is_eq.ensures ∙ ap is_eq c.order.ensures) ∙ c.if-is_eq.true)

pub returns-else-is_eq : goal.returns-else-is_eq
returns-else-is_eq c k = one_left c.args.form.now c.in-One.only c.args.key.now k c.in-One.is (sym (c.is_eq.ensures ∙ ap is_eq c.order.ensures) ∙ c.if-is_eq.false)
