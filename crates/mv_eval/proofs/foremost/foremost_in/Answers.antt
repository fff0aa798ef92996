use Rattle.std.proofs.Common.{ap, ◌∙◌}
use Rattle.std.specs.Option.{option_map}
use Rattle.mv_values.specs.Tables.{key_columns, rows_at}
use Rattle.mv_table.specs.Entries.{seen}
use Rattle.mv_table.specs.Scans.{foremost}
use Rattle.mv_eval.proofs.Spanning.{placed_admit, whole_matches, foremost_of_one}
use Rattle.mv_eval.proofs.foremost.foremost_in.Goals as goal

pub match_in-requires : goal.match_in-requires
match_in-requires c =
    let only = rw (c.in-Some.is, c.key_in.ensures) at c.in_ok-key.ensures.only in
    whole_matches (key_columns c.args.infos.now c.args.table) c.args.tests.now (rows_at c.args.tables.now c.args.table) c.in-Some.key c.requires.places (c.requires.keys c.args.table) only

pub returns-in-Some-clause-row : goal.returns-in-Some-clause-row
returns-in-Some-clause-row c = foremost_of_one c.args.direction (option_map seen c.match_in.result) ∙ ap (foremost c.args.direction) c.match_in.ensures.row

pub foremost_within-requires : goal.foremost_within-requires
foremost_within-requires c =
    placed_admit (key_columns c.args.infos.now c.args.table) c.args.tests.now (rows_at c.args.tables.now c.args.table) c.requires.places (c.requires.keys c.args.table)
