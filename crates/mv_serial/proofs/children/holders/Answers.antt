use Rattle.std.proofs.Common.{◌≡◌, ◌≤◌, length, map, sym, ap, subst, ◌∙◌, arith}
use Rattle.std.specs.Prelude.{IfOk}
use Rattle.mv_values.specs.declared.op.Op.TheVariants.{Eq}
use Rattle.mv_values.specs.Tables.{key_columns, rows_at}
use Rattle.mv_table.specs.Entries.{seen}
use Rattle.mv_eval.specs.FirstRows.{AdmitMatches}
use Rattle.mv_eval.specs.Rows.{matching, test_on}
use Rattle.mv_eval.proofs.Few.{key_few}
use Rattle.mv_eval.proofs.Holding.{matching_key, key_tests_placed}
use Rattle.mv_eval.proofs.Spanning.{placed_admit}
use Rattle.mv_serial.proofs.children.holders.Goals as goal

pub tests_of_key-requires : goal.tests_of_key-requires
tests_of_key-requires c =
    let few = subst (λ ks. length ks ≤ 32) (sym c.key_in.ensures) (key_few c.args.infos.now c.args.table c.requires.each) in
    omega (arith, few)

pub matches_in-requires : goal.matches_in-requires
matches_in-requires c =
    let ks = key_columns c.args.infos.now c.args.table in
    let rows = rows_at c.args.tables.now c.args.table in
    let is = rw c.key_in.ensures at c.in_ok-tests.ensures in
    subst (λ tests. AdmitMatches tests rows) (sym (c.as_slice.ensures ∙ is))
    (placed_admit ks (map (λ v. test_on ks c.args.column Eq v) c.args.key.now) rows (key_tests_placed ks c.args.column c.args.key.now) (c.requires.keys c.args.table))

pub returns : goal.returns
returns c =
    let ks = key_columns c.args.infos.now c.args.table in
    let rows = rows_at c.args.tables.now c.args.table in
    let is = rw c.key_in.ensures at c.in_ok-tests.ensures in
    subst (λ found-rows. IfOk c.matches_in.result (λ found. map seen found.items ≡ found-rows)) (ap (λ tests. matching tests rows) (c.as_slice.ensures ∙ is) ∙ matching_key ks c.args.column c.args.key.now rows) c.matches_in.ensures.rows
