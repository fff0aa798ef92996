use Rattle.std.proofs.Common.{rules, ◌≡◌, pos}
use Rattle.mv_values.specs.Tables.{key_columns, rows_at}
use Rattle.mv_eval.proofs.Spanning.{placed_admit}
use Rattle.mv_eval.proofs.FirstRows.{first_chosen}
use Rattle.mv_eval.proofs.chosen.chosen_in.Goals as goal

pub returns-in-Some : goal.returns-in-Some
returns-in-Some c =
    let keys = key_columns c.args.infos.now c.args.table in
    let rows = rows_at c.args.tables.now c.args.table in
    let leads = rw c.key_in-keys.ensures at c.in-Some.ensures.leads in
    let zero : c.args.at ≡ pos 0 = search rules in
    first_chosen c.foremost_in.result c.args.sorts.now keys c.args.tests.now rows c.in-Some.direction c.args.at zero (c.requires.keys c.args.table) (placed_admit (key_columns c.args.infos.now c.args.table) c.args.tests.now (rows_at c.args.tables.now c.args.table) c.requires.places (c.requires.keys c.args.table)) leads
    c.foremost_in.ensures.row c.foremost_in.ensures.rising
