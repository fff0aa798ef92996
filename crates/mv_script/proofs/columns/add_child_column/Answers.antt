use Rattle.std.proofs.Common.{◌≡◌, sym, ◌∙◌, subst}
use Rattle.std.specs.Prelude.{◌||◌}
use Rattle.std.proofs.lemmas.Result.{on_ok_weaker}
use Rattle.mv_values.specs.Testing.{are_tested}
use Rattle.mv_script.specs.Columns.{finds_children, is_indexed_by}
use Rattle.mv_script.proofs.Choosing.{no_child, a_child}
use Rattle.mv_script.proofs.columns.add_child_column.Goals as goal

pub returns-then-not-finds_children : goal.returns-then-not-finds_children
returns-then-not-finds_children c t n =
    no_child (finds_children c.args.graph.now c.args.column.table c.args.column.column) (are_tested c.args.all.now t n) (is_indexed_by c.args.graph.now.tables t n c.args.column) (sym c.finds_children.ensures ∙ c.if-not-finds_children.true)

pub returns : goal.returns
returns c = on_ok_weaker c.add_column.result (λ is t n.
    a_child (finds_children c.args.graph.now c.args.column.table c.args.column.column) (are_tested c.args.all.now t n) (are_tested c.add_column.new.all t n) (is_indexed_by c.args.graph.now.tables t n c.args.column) (sym c.finds_children.ensures ∙ c.if-not-finds_children.false)
    (subst (λ tables. are_tested c.add_column.new.all t n ≡ (are_tested c.args.all.now t n || is_indexed_by tables t n c.args.column)) c.as_slice.ensures (is t n))) c.add_column.ensures
