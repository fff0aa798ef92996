use Rattle.std.proofs.Common.{map, sym, ap, subst, ◌∙◌}
use Rattle.std.proofs.lemmas.List.Kept.{AllPairs-filter}
use Rattle.mv_values.specs.Keys.{IsRising, IsBelow}
use Rattle.mv_values.specs.Preds.{meets}
use Rattle.mv_values.specs.Tables.{key_columns, rows_at}
use Rattle.mv_table.specs.Entries.{seen}
use Rattle.mv_eval.proofs.Spanning.{placed_admit, whole_matches, one_seen}
use Rattle.mv_eval.proofs.find.found_in.Goals as goal

pub match_in-requires : goal.match_in-requires
match_in-requires c =
    let only = rw (c.in-Some.is, c.key_in.ensures) at c.in_ok-key.ensures.only in
    whole_matches (key_columns c.args.infos.now c.args.table) c.args.tests.now (rows_at c.args.tables.now c.args.table) c.in-Some.key c.requires.places (c.requires.keys c.args.table) only

pub matches_in-requires : goal.matches_in-requires
matches_in-requires c =
    placed_admit (key_columns c.args.infos.now c.args.table) c.args.tests.now (rows_at c.args.tables.now c.args.table) c.requires.places (c.requires.keys c.args.table)

pub returns-in_ok-found-in-Some-clause-rows : goal.returns-in_ok-found-in-Some-clause-rows
returns-in_ok-found-in-Some-clause-rows c = ap (λ es. map seen es) c.in_ok-found-in-Some.ensures ∙ (one_seen seen c.match_in.result ∙ c.match_in.ensures.row)

pub returns-in_ok-found-in-Some-clause-rising : goal.returns-in_ok-found-in-Some-clause-rising
returns-in_ok-found-in-Some-clause-rising c =
    let tests = c.args.tests.now in
    subst IsRising (sym (returns-in_ok-found-in-Some-clause-rows c)) (AllPairs-filter (λ a b. IsBelow b.key a) (λ item. meets tests item.row) (rows_at c.args.tables.now c.args.table) c.match_in.ensures.rising)
