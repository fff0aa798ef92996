use Rattle.std.proofs.Common.{◌≡◌, ◌<◌, ◌⊎◌, Some, rules, slice_index_or, length}
use Rattle.std.specs.Prelude.{slice_get}
use Rattle.mv_csvio.specs.Joining.{TellsOfValues}
use Rattle.mv_csvio.specs.declared.fault.CopyFault.TheVariants as copy
use Rattle.mv_opening.proofs.Opened.{first_table, gathered_more, got}
use Rattle.mv_opening.proofs.opening.gather_all.Goals as goal

pub returns-in-Err : goal.returns-in-Err
returns-in-Err c =
    let tables = c.args.resolved.now.tables in
    let within : c.loop-place.place < length tables = search rules in
    let is : c.table-item.result ≡ slice_index_or tables c.loop-place.place c.table-item.result = search rules in
    let rows : slice_get c.args.resolved.now.rows c.loop-place.place ≡ Some c.index-values-place.result = got c.args.resolved.now.rows c.loop-place.place c.index-values-place.result (search rules) (search rules) in
    let tells : (c.in-Err.fault ≡ copy.NoMemory) ⊎ TellsOfValues c.table-item.result c.index-values-place.result c.in-Err.fault = c.in-Err.ensures.fault in
    first_table c.args.resolved.now c.loop-place.place c.table-item.result c.index-values-place.result c.loop-place.tables c.in-Err.fault c.of_rows.result
    within is c.loop-place.invariant rows tells (search rules)

pub loop-place-preserved : goal.loop-place-preserved
loop-place-preserved c =
    let tables = c.args.resolved.now.tables in
    let within : c.loop-place.place < length tables = search rules in
    let is : c.table-item.result ≡ slice_index_or tables c.loop-place.place c.table-item.result = search rules in
    let rows : slice_get c.args.resolved.now.rows c.loop-place.place ≡ Some c.index-values-place.result = got c.args.resolved.now.rows c.loop-place.place c.index-values-place.result (search rules) (search rules) in
    rw c.in_ok-push-in-Ok.ensures.ok
    (gathered_more tables c.args.resolved.now.rows c.loop-place.tables c.loop-place.place c.table-item.result c.index-values-place.result c.in-Ok.rows
    c.loop-place.invariant (got tables c.loop-place.place c.table-item.result within is) rows c.in-Ok.ensures.rows)
