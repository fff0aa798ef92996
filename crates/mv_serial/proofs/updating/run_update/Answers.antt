use Rattle.std.proofs.Common.{All, sym, subst}
use Rattle.std.proofs.lemmas.Result.{err_from_is_err_and}
use Rattle.mv_values.specs.Tables.{key_columns, rows_at}
use Rattle.mv_values.proofs.There.{parents_have_one_key}
use Rattle.mv_eval.specs.Rows.{matching, IsPlaced}
use Rattle.mv_eval.specs.Changes.{set_row_by}
use Rattle.mv_eval.specs.References.{fit_in}
use Rattle.mv_eval.proofs.Standing.{New}
use Rattle.mv_serial.proofs.Lawful.{others_stay}
use Rattle.mv_serial.proofs.Renewing.{renewals_make, renewals_fail, some_renewed}
use Rattle.mv_serial.proofs.Standing.{update_stands}
use Rattle.mv_serial.proofs.Tabling.{updated_at, update_ok, update_fails}
use Rattle.mv_serial.proofs.updating.run_update.Goals as goal

pub returns-clause-does : goal.returns-clause-does
returns-clause-does c =
    let t = c.args.update.now.table in
    let st = c.args.state.now in
    let new : New = λ row. set_row_by (fit_in c.args.tables.now t st.tables) (key_columns c.args.tables.now t) st.env row c.args.update.now.items.now row in
    let is = rw c.as_slice.ensures at c.in_ok-changes.ensures.changes in
    let made = renewals_make t new c.in_ok-tests.tests st.tables c.make_all.new.tables c.in_ok-changes.changes c.in_ok-changes.ensures.rising is c.in_ok-make_all.ensures.tables in
    let some = some_renewed t new (matching c.in_ok-tests.tests (rows_at st.tables t)) c.in_ok-changes.changes is in
    rw (c.in_ok-set_found.ensures.ok, c.len-found.ensures, some)
    (update_ok c.args.tables.now t c.args.update.now.items.now c.args.update.now.conds.now st c.in_ok-tests.tests c.make_all.new.tables c.in_ok-tests.ensures.tests made)

pub returns-in_err-changes-clause-does : goal.returns-in_err-changes-clause-does
returns-in_err-changes-clause-does c =
    let t = c.args.update.now.table in
    let st = c.args.state.now in
    let new : New = λ row. set_row_by (fit_in c.args.tables.now t st.tables) (key_columns c.args.tables.now t) st.env row c.args.update.now.items.now row in
    let failed = rw c.as_slice.ensures at c.in_err-changes.ensures.changes in
    let p = err_from_is_err_and c.from_residual-in_err-changes.result c.from_residual-in_err-changes.ensures.1 in
    rw (p.1, p.2)
    (update_fails c.args.tables.now t c.args.update.now.items.now c.args.update.now.conds.now st c.in_ok-tests.tests c.in_err-changes.field-0.0 c.in_ok-tests.ensures.tests
    (renewals_fail t new c.in_ok-tests.tests st.tables c.in_err-changes.field-0.0 failed))

pub returns-clause-keys : goal.returns-clause-keys
returns-clause-keys c =
    let t = c.args.update.now.table in
    let st = c.args.state.now in
    let new : New = λ row. set_row_by (fit_in c.args.tables.now t st.tables) (key_columns c.args.tables.now t) st.env row c.args.update.now.items.now row in
    let is = rw c.as_slice.ensures at c.in_ok-changes.ensures.changes in
    let made = renewals_make t new c.in_ok-tests.tests st.tables c.make_all.new.tables c.in_ok-changes.changes c.in_ok-changes.ensures.rising is c.in_ok-make_all.ensures.tables in
    update_stands c.args.tables.now t c.args.update.now.items.now c.in_ok-tests.tests st c.make_all.new.tables c.requires.keys made

pub returns-clause-others : goal.returns-clause-others
returns-clause-others c =
    let t = c.args.update.now.table in
    let st = c.args.state.now in
    let new : New = λ row. set_row_by (fit_in c.args.tables.now t st.tables) (key_columns c.args.tables.now t) st.env row c.args.update.now.items.now row in
    let is = rw c.as_slice.ensures at c.in_ok-changes.ensures.changes in
    let made = renewals_make t new c.in_ok-tests.tests st.tables c.make_all.new.tables c.in_ok-changes.changes c.in_ok-changes.ensures.rising is c.in_ok-make_all.ensures.tables in
    others_stay st.tables c.make_all.new.tables t (updated_at c.args.tables.now t c.args.update.now.items.now c.in_ok-tests.tests st) made

pub renewals_in-requires-clause-places : goal.renewals_in-requires-clause-places
renewals_in-requires-clause-places c = subst (All (IsPlaced (key_columns c.args.tables.now c.args.update.now.table))) (sym c.as_slice.ensures) c.in_ok-tests.ensures.places

pub renewals_in-requires-clause-parents : goal.renewals_in-requires-clause-parents
renewals_in-requires-clause-parents c = parents_have_one_key c.args.tables.now c.args.state.now.tables c.requires.parents c.requires.keys
