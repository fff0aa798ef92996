use Rattle.std.proofs.Common.{sym, ap, ◌∙◌}
use Rattle.std.specs.Prelude.{◌&&◌}
use Rattle.std.specs.List.{list_all}
use Rattle.std.specs.Ordering.{is_eq}
use Rattle.mv_values.specs.declared.pred.Test.{Test}
use Rattle.mv_values.specs.Columns.{column_of}
use Rattle.mv_values.specs.Order.{value_order}
use Rattle.mv_changes.proofs.Comparing.{names_same}
use Rattle.mv_audit.proofs.hit.names_same.Goals as goal

pub returns-then-selects_same : goal.returns-then-selects_same
returns-then-selects_same c =
    c.tests_same.ensures
    ∙ sym (names_same c.args.pred.now c.args.a.now c.args.b.now
    ∙ ap (λ x. x && list_all (λ (t : Test). is_eq (value_order (column_of c.args.a.now t.column) (column_of c.args.b.now t.column))) c.args.pred.now.tests) (sym c.selects_same.ensures ∙ c.if-selects_same.true))

pub returns-else-selects_same : goal.returns-else-selects_same
returns-else-selects_same c =
    c.if-selects_same.false
    ∙ sym (names_same c.args.pred.now c.args.a.now c.args.b.now
    ∙ ap (λ x. x && list_all (λ (t : Test). is_eq (value_order (column_of c.args.a.now t.column) (column_of c.args.b.now t.column))) c.args.pred.now.tests) (sym c.selects_same.ensures ∙ c.if-selects_same.false))
