use Rattle.std.proofs.Common.{◌+◌, ◌<◌, drop, length, rules, sym, ◌∙◌}
use Rattle.std.proofs.lemmas.Result.{err_from_is_err_and}
use Rattle.mv_values.specs.References.{references, orphans_of, orphans_from}
use Rattle.mv_values.specs.Tables.{rows_at}
use Rattle.mv_opening.proofs.Orphans.{none_then, tells_front, tables_step}
use Rattle.mv_opening.proofs.parents.parents.Goals as goal

pub loop-table-preserved : goal.loop-table-preserved
loop-table-preserved c =
    let db = c.args.opening.now in
    let t = c.loop-table.table in
    let within : t < length db = search rules in
    none_then (orphans_of db (references c.args.tables.now t) 1 (rows_at db t)) (orphans_from c.args.tables.now db (t + 1) (drop (t + 1) db)) _ c.in_ok-check_table_at.ensures
    (sym (tables_step c.args.tables.now db t within) ∙ c.loop-table.invariant)

pub returns-in_err-check_table_at : goal.returns-in_err-check_table_at
returns-in_err-check_table_at c =
    let db = c.args.opening.now in
    let t = c.loop-table.table in
    let within : t < length db = search rules in
    let p = err_from_is_err_and c.from_residual.result c.from_residual.ensures.1 in
    rw (p.1, p.2)
    (tells_front c.in_err-check_table_at.field-0.0 (orphans_of db (references c.args.tables.now t) 1 (rows_at db t)) (orphans_from c.args.tables.now db (t + 1) (drop (t + 1) db)) _
    (sym (tables_step c.args.tables.now db t within) ∙ c.loop-table.invariant) c.in_err-check_table_at.ensures)
