use Rattle.std.proofs.Common.{sym, ap, ◌∙◌}
use Rattle.std.specs.Option.{option_map}
use Rattle.mv_values.specs.declared.rows.Keyed.{Keyed}
use Rattle.mv_values.specs.Columns.{column_of}
use Rattle.mv_values.specs.Tables.{key_columns, rows_at}
use Rattle.mv_table.specs.Entries.{seen}
use Rattle.mv_eval.proofs.Spanning.{placed_admit}
use Rattle.mv_eval.proofs.FirstRows.{told_is, some_mapped, twice_mapped}
use Rattle.mv_eval.proofs.extremes.total_of.Goals as goal

pub returns : goal.returns
returns c =
    let keys = key_columns c.args.infos.now c.args.table in
    let rows = rows_at c.args.tables.now c.args.table in
    let tells = rw c.key_in-keys.ensures at c.in-Some.ensures.tells in
    told_is c.args.agg keys c.args.tests.now rows c.in-Some.column c.in-Some.direction (option_map seen c.in_ok-row.row) c.in_ok-value.value c.is_some.result c.in_ok-row.ensures.rising (c.requires.keys c.args.table)
    (placed_admit (key_columns c.args.infos.now c.args.table) c.args.tests.now (rows_at c.args.tables.now c.args.table) c.requires.places (c.requires.keys c.args.table)) tells c.in_ok-row.ensures.row
    (c.in_ok-value.ensures
    ∙ (ap (option_map (λ i. column_of (seen i).row c.in-Some.column)) c.as_ref.ensures.value ∙ twice_mapped seen (λ (item : Keyed). column_of item.row c.in-Some.column) c.in_ok-row.row))
    (c.is_some.ensures ∙ sym (some_mapped seen c.in_ok-row.row))
