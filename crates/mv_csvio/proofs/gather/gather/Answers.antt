use Rattle.std.proofs.Common.{[], Ok, rules}
use Rattle.std.proofs.lemmas.Result.{err_from_is_err_and}
use Rattle.mv_csvio.specs.Joining.{HasJoined}
use Rattle.mv_csvio.proofs.Once.{gather_only, gather_told}
use Rattle.mv_csvio.proofs.gather.gather.Goals as goal

pub returns-in_err-joining-clause-only : goal.returns-in_err-joining-clause-only
returns-in_err-joining-clause-only c =
    let p = err_from_is_err_and c.from_residual.result c.from_residual.ensures.1 in
    gather_only c.args.table.now c.args.rows.now c.from_residual.result (rw (p.1, p.2) c.in_err-joining.ensures.fault)

pub returns-in_err-joining-clause-told : goal.returns-in_err-joining-clause-told
returns-in_err-joining-clause-told c =
    let p = err_from_is_err_and c.from_residual.result c.from_residual.ensures.1 in
    gather_told c.args.table.now c.args.rows.now c.from_residual.result (rw (p.1, p.2) c.in_err-joining.ensures.fault)

pub returns-clause-only : goal.returns-clause-only
returns-clause-only c =
    let joined : HasJoined c.args.table.now [] c.args.rows.now c.in_ok-into_rows.field-0 = search (rules, c.in_ok-joining.ensures) in
    gather_only c.args.table.now c.args.rows.now (Ok c.in_ok-into_rows.field-0) joined

pub returns-clause-told : goal.returns-clause-told
returns-clause-told c =
    let joined : HasJoined c.args.table.now [] c.args.rows.now c.in_ok-into_rows.field-0 = search (rules, c.in_ok-joining.ensures) in
    gather_told c.args.table.now c.args.rows.now (Ok c.in_ok-into_rows.field-0) joined
