use Rattle.std.proofs.Common.{◌≡◌, ◌⊎◌, Ok, rules}
use Rattle.std.proofs.lemmas.Result.{err_from_is_err_and}
use Rattle.mv_csvio.specs.declared.fault.CopyFault.TheVariants as fault
use Rattle.mv_csvio.specs.Loading.{HasLoaded, IsFirstBad, records_of}
use Rattle.mv_csvio.proofs.Once.{load_only, load_told}
use Rattle.mv_csvio.proofs.load.load.Goals as goal

pub returns-in_err-join_records-clause-only : goal.returns-in_err-join_records-clause-only
returns-in_err-join_records-clause-only c =
    let p = err_from_is_err_and c.from_residual-in_err-join_records.result c.from_residual-in_err-join_records.ensures.1 in
    let block = records_of c.args.block.now in
    let tells : (c.in_err-join_records.field-0.0 ≡ fault.NoMemory) ⊎ IsFirstBad c.args.table.now c.args.rows.now block c.in_err-join_records.field-0.0 = search (rules, c.in_err-join_records.ensures) in
    load_only c.args.table.now c.args.rows.now block c.replace-old.new.dest c.from_residual-in_err-join_records.result (rw (p.1, p.2) tells)

pub returns-in_err-join_records-clause-told : goal.returns-in_err-join_records-clause-told
returns-in_err-join_records-clause-told c =
    let p = err_from_is_err_and c.from_residual-in_err-join_records.result c.from_residual-in_err-join_records.ensures.1 in
    let block = records_of c.args.block.now in
    let tells : (c.in_err-join_records.field-0.0 ≡ fault.NoMemory) ⊎ IsFirstBad c.args.table.now c.args.rows.now block c.in_err-join_records.field-0.0 = search (rules, c.in_err-join_records.ensures) in
    load_told c.args.table.now c.args.rows.now block c.replace-old.new.dest c.from_residual-in_err-join_records.result (rw (p.1, p.2) tells)

pub returns-clause-only : goal.returns-clause-only
returns-clause-only c =
    let block = records_of c.args.block.now in
    let loaded : HasLoaded c.args.table.now c.args.rows.now block c.in_ok-rows.field-0 = search (rules, c.in_ok-join_records.ensures) in
    load_only c.args.table.now c.args.rows.now block c.in_ok-rows.field-0 (Ok (tt {0})) loaded

pub returns-clause-told : goal.returns-clause-told
returns-clause-told c =
    let block = records_of c.args.block.now in
    let loaded : HasLoaded c.args.table.now c.args.rows.now block c.in_ok-rows.field-0 = search (rules, c.in_ok-join_records.ensures) in
    load_told c.args.table.now c.args.rows.now block c.in_ok-rows.field-0 (Ok (tt {0})) loaded
