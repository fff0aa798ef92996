use Rattle.std.proofs.Common.{not, length, ap, ◌∙◌}
use Rattle.std.specs.Prelude.{◌==◌}
use Rattle.mv_values.specs.Tables.{rows_at}
use Rattle.mv_table.specs.Entries.{seen}
use Rattle.mv_eval.specs.Rows.{matching}
use Rattle.mv_eval.proofs.FirstRows.{total_is, some_of}
use Rattle.mv_eval.proofs.extremes.total_of_all.Goals as goal

pub returns : goal.returns
returns c =
    let rows = c.in_ok-found.ensures.rows in
    total_is c.args.agg (matching c.args.tests.now (rows_at c.args.tables.now c.args.table)) c.in_ok-value.value (not c.is_empty.result) (rw (c.as_slice-rows.ensures.value, rows) at c.in_ok-value.ensures)
    (ap not c.is_empty.ensures ∙ (ap (λ l. not (length l == 0)) c.as_slice-rows.ensures.value ∙ some_of seen c.in_ok-found.found.items (matching c.args.tests.now (rows_at c.args.tables.now c.args.table)) rows))
