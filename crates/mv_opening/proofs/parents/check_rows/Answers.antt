use Rattle.std.proofs.Common.{◌+◌, drop, sym, ◌∙◌}
use Rattle.std.proofs.lemmas.Result.{err_from_is_err_and}
use Rattle.mv_values.specs.References.{references_from, orphans_in, orphans_of}
use Rattle.mv_opening.proofs.Orphans.{none_then, tells_front, rows_step}
use Rattle.mv_opening.proofs.parents.check_rows.Goals as goal

pub loop-place-preserved : goal.loop-place-preserved
loop-place-preserved c =
    let db = c.args.opening.now in
    let refs = references_from c.args.table 0 c.args.columns.now in
    let n = c.loop-place.place + 1 in
    let step = rows_step db refs n c.loop-place.place c.args.rows.now c.index-rows-place.result c.loop-place-test.true c.index-rows-place.is in
    none_then (orphans_in db refs n c.index-rows-place.result) (orphans_of db refs (n + 1) (drop n c.args.rows.now)) _ c.in_ok-check_row.ensures (sym step ∙ c.loop-place.invariant)

pub returns-in_err-check_row : goal.returns-in_err-check_row
returns-in_err-check_row c =
    let db = c.args.opening.now in
    let refs = references_from c.args.table 0 c.args.columns.now in
    let n = c.loop-place.place + 1 in
    let step = rows_step db refs n c.loop-place.place c.args.rows.now c.index-rows-place.result c.loop-place-test.true c.index-rows-place.is in
    let p = err_from_is_err_and c.from_residual.result c.from_residual.ensures.1 in
    rw (p.1, p.2)
    (tells_front c.in_err-check_row.field-0.0 (orphans_in db refs n c.index-rows-place.result) (orphans_of db refs (n + 1) (drop n c.args.rows.now)) _ (sym step ∙ c.loop-place.invariant) c.in_err-check_row.ensures)
