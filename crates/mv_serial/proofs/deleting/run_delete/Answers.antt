use Rattle.std.proofs.Common.{List, All, length, sym, ap, subst, ◌∙◌}
use Rattle.std.specs.Prelude.{nat_lt}
use Rattle.mv_values.specs.Tables.{key_columns, rows_at}
use Rattle.mv_eval.specs.Rows.{matching, IsPlaced}
use Rattle.mv_eval.specs.FirstRows.{AdmitMatches}
use Rattle.mv_eval.proofs.Spanning.{placed_admit}
use Rattle.mv_serial.proofs.Lawful.{others_left}
use Rattle.mv_serial.proofs.Renewing.{removals_make, some_removed}
use Rattle.mv_serial.specs.declared.change.RowChange.{RowChange}
use Rattle.mv_serial.proofs.Standing.{delete_stands}
use Rattle.mv_serial.proofs.Tabling.{delete_ok, delete_stops}
use Rattle.mv_serial.proofs.deleting.run_delete.Goals as goal

pub returns-clause-does : goal.returns-clause-does
returns-clause-does c =
    let t = c.args.table in
    let st = c.args.state.now in
    let is = rw c.as_slice-2.ensures at c.in_ok-changes.ensures.changes in
    let made = removals_make t c.in_ok-tests.tests st.tables c.make_all.new.tables c.in_ok-changes.changes c.in_ok-changes.ensures.rising is c.in_ok-make_all.ensures.tables in
    let some = ap (λ (l : List RowChange). nat_lt 0 (length l)) is ∙ some_removed t (matching c.in_ok-tests.tests (rows_at st.tables t)) in
    let none = sym (rw c.as_slice.ensures at c.in_ok-are_parents.ensures) ∙ c.if-are_parents.false in
    rw (c.in_ok-set_found.ensures.ok, c.len-found.ensures, some) (delete_ok c.args.infos.now t c.args.conds.now st c.in_ok-tests.tests c.make_all.new.tables c.in_ok-tests.ensures.tests none made)

pub returns-then-are_parents-clause-does : goal.returns-then-are_parents-clause-does
returns-then-are_parents-clause-does c =
    let some = sym (rw c.as_slice.ensures at c.in_ok-are_parents.ensures) ∙ c.if-are_parents.true in
    delete_stops c.args.infos.now c.args.table c.args.conds.now c.args.state.now c.in_ok-tests.tests c.in_ok-tests.ensures.tests some

pub returns-clause-keys : goal.returns-clause-keys
returns-clause-keys c =
    let t = c.args.table in
    let db = c.args.state.now.tables in
    let is = rw c.as_slice-2.ensures at c.in_ok-changes.ensures.changes in
    let made = removals_make t c.in_ok-tests.tests db c.make_all.new.tables c.in_ok-changes.changes c.in_ok-changes.ensures.rising is c.in_ok-make_all.ensures.tables in
    delete_stands c.args.infos.now t c.in_ok-tests.tests db c.make_all.new.tables c.requires.keys made

pub returns-clause-others : goal.returns-clause-others
returns-clause-others c =
    let t = c.args.table in
    let db = c.args.state.now.tables in
    let is = rw c.as_slice-2.ensures at c.in_ok-changes.ensures.changes in
    let made = removals_make t c.in_ok-tests.tests db c.make_all.new.tables c.in_ok-changes.changes c.in_ok-changes.ensures.rising is c.in_ok-make_all.ensures.tables in
    others_left db c.make_all.new.tables t _ made

pub have_children-requires-clause-admit : goal.have_children-requires-clause-admit
have_children-requires-clause-admit c =
    let rows = rows_at c.args.state.now.tables c.args.table in
    subst (λ tests. AdmitMatches tests rows) (sym c.as_slice.ensures)
    (placed_admit (key_columns c.args.infos.now c.args.table) c.in_ok-tests.tests rows c.in_ok-tests.ensures.places (c.requires.keys c.args.table))

pub removals_in-requires-clause-places : goal.removals_in-requires-clause-places
removals_in-requires-clause-places c = subst (All (IsPlaced (key_columns c.args.infos.now c.args.table))) (sym c.as_slice-2.ensures) c.in_ok-tests.ensures.places
