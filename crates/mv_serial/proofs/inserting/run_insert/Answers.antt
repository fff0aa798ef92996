use Rattle.std.proofs.Common.{sym, ap, ◌∙◌}
use Rattle.std.proofs.lemmas.Result.{err_from_is_err_and}
use Rattle.mv_values.specs.declared.rows.Keyed.{Keyed}
use Rattle.mv_values.specs.Tables.{key_columns, rows_at}
use Rattle.mv_values.specs.Columns.{columns_of}
use Rattle.mv_values.proofs.There.{parents_have_one_key}
use Rattle.mv_eval.specs.Changes.{put_row}
use Rattle.mv_serial.proofs.Lawful.{others_stay}
use Rattle.mv_serial.proofs.Standing.{insert_stands}
use Rattle.mv_serial.proofs.Tabling.{insert_ok, insert_stops, insert_fails}
use Rattle.mv_serial.proofs.inserting.run_insert.Goals as goal

pub has_parents-requires : goal.has_parents-requires
has_parents-requires c = parents_have_one_key c.args.tables.now c.args.state.now.tables c.requires.parents c.requires.keys

pub returns-clause-does : goal.returns-clause-does
returns-clause-does c =
    let made = rw c.columns_in.ensures at c.in_ok-row.ensures in
    let is = rw c.key_in.ensures at c.in_ok-item.ensures in
    rw c.in_ok-set_found.ensures.ok
    (insert_ok c.args.tables.now c.args.table c.args.values.now c.args.state.now c.in_ok-row.row c.in_ok-item.item c.put_new.new.tables made is c.in_ok-put_new.ensures.rows (sym c.in_ok-is_kept.ensures ∙ c.if-not-is_kept.false))

pub returns-then-not-is_kept-clause-does : goal.returns-then-not-is_kept-clause-does
returns-then-not-is_kept-clause-does c =
    let made = rw c.columns_in.ensures at c.in_ok-row.ensures in
    let is = rw c.key_in.ensures at c.in_ok-item.ensures in
    insert_stops c.args.tables.now c.args.table c.args.values.now c.args.state.now c.in_ok-row.row c.in_ok-item.item c.put_new.new.tables made is c.in_ok-put_new.ensures.rows (sym c.in_ok-is_kept.ensures ∙ c.if-not-is_kept.true)

pub returns-in_err-put_new-clause-does : goal.returns-in_err-put_new-clause-does
returns-in_err-put_new-clause-does c =
    let made = rw c.columns_in.ensures at c.in_ok-row.ensures in
    let is = rw c.key_in.ensures at c.in_ok-item.ensures in
    let p = err_from_is_err_and c.from_residual-in_err-put_new.result c.from_residual-in_err-put_new.ensures.1 in
    rw (p.1, p.2) (insert_fails c.args.tables.now c.args.table c.args.values.now c.args.state.now c.in_ok-row.row c.in_ok-item.item c.in_err-put_new.field-0.0 made is c.in_err-put_new.ensures.rows)

pub returns-clause-keys : goal.returns-clause-keys
returns-clause-keys c =
    let is = rw c.key_in.ensures at c.in_ok-item.ensures in
    insert_stands c.args.tables.now c.args.table c.in_ok-item.item c.args.state.now.tables c.put_new.new.tables c.requires.keys
    (ap (λ (k : Keyed). k.key) is ∙ sym (ap (λ (k : Keyed). columns_of k.row (key_columns c.args.tables.now c.args.table)) is)) c.in_ok-put_new.ensures.rows

pub returns-clause-others : goal.returns-clause-others
returns-clause-others c =
    others_stay c.args.state.now.tables c.put_new.new.tables c.args.table (put_row c.in_ok-item.item (rows_at c.args.state.now.tables c.args.table)) c.in_ok-put_new.ensures.rows
