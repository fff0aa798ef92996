use Rattle.std.proofs.Common.{Ok, rules}
use Rattle.std.proofs.lemmas.Result.{err_from_is_err_and}
use Rattle.mv_opening.specs.Opening.{IsOpening}
use Rattle.mv_opening.proofs.Once.{opening_only, opening_told}
use Rattle.mv_opening.proofs.Stands.{opening_is}
use Rattle.mv_opening.proofs.opening.opening.Goals as goal

pub returns-in_err-tables-clause-only : goal.returns-in_err-tables-clause-only
returns-in_err-tables-clause-only c =
    let p = err_from_is_err_and c.from_residual.result c.from_residual.ensures.1 in
    opening_only c.args.resolved.now c.args.bytes.now c.from_residual.result (rw (p.1, p.2) c.in_err-tables.ensures)

pub returns-in_err-tables-clause-told : goal.returns-in_err-tables-clause-told
returns-in_err-tables-clause-told c =
    let p = err_from_is_err_and c.from_residual.result c.from_residual.ensures.1 in
    opening_told c.args.resolved.now c.args.bytes.now c.from_residual.result (rw (p.1, p.2) c.in_err-tables.ensures)

pub returns-clause-only : goal.returns-clause-only
returns-clause-only c =
    let is : IsOpening c.args.resolved.now c.args.bytes.now c.in_ok-into_database.field-0 = search (rules, c.in_ok-tables.ensures) in
    opening_only c.args.resolved.now c.args.bytes.now (Ok c.in_ok-into_database.field-0) is

pub returns-clause-told : goal.returns-clause-told
returns-clause-told c =
    let is : IsOpening c.args.resolved.now c.args.bytes.now c.in_ok-into_database.field-0 = search (rules, c.in_ok-tables.ensures) in
    opening_told c.args.resolved.now c.args.bytes.now (Ok c.in_ok-into_database.field-0) is

pub returns-clause-database : goal.returns-clause-database
returns-clause-database c = λ text.
    let is : IsOpening c.args.resolved.now c.args.bytes.now c.in_ok-into_database.field-0 = search (rules, c.in_ok-tables.ensures) in
    opening_is c.args.resolved.now c.args.bytes.now c.in_ok-into_database.field-0 text is
