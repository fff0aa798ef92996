use Rattle.std.proofs.Common.{sym, ap, ◌∙◌}
use Rattle.mv_values.specs.Columns.{column_of}
use Rattle.mv_store.proofs.Indexing.{column_elsewhere, column_here}
use Rattle.mv_store.proofs.entries.forget_column.Goals as goal

pub returns-then-not-is_of : goal.returns-then-not-is_of
returns-then-not-is_of g c = column_elsewhere c.args.table c.args.key.now (g.K.Valued.versions c.args.kept.now) c.args.row.now c.args.column c.args.index.now (sym c.is_of.ensures ∙ c.if-not-is_of.true)

pub returns : goal.returns
returns g c =
    column_here c.args.table c.args.key.now (g.K.Valued.versions c.args.kept.now) c.args.row.now c.args.column c.value_in-value.result.now c.args.index.now c.forget_value.new.index (sym c.is_of.ensures ∙ c.if-not-is_of.false)
    (c.value_in-value.ensures ∙ ap (λ r. column_of r c.args.column.column) c.as_slice.ensures) c.forget_value.ensures
