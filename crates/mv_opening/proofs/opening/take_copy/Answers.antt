use Rattle.std.proofs.Common.{◌≡◌, ◌∙◌, ◌⊎◌, List, Some, true, ap, sym, subst, rules}
use Rattle.std.specs.Prelude.{slice_get, slice_set}
use Rattle.std.proofs.lemmas.List.{set-set}
use Rattle.std.proofs.lemmas.List.Elements.{All-get_or}
use Rattle.std.proofs.lemmas.Option.{get_or_from_slice_get, slice_get_within}
use Rattle.mv_values.specs.declared.rows.Keyed.{Keyed}
use Rattle.mv_values.specs.Keys.{IsRising}
use Rattle.mv_values.specs.Tables.{rows_at}
use Rattle.mv_csvio.specs.Loading.{HasLoaded, IsFirstBad, records_of}
use Rattle.mv_csvio.specs.declared.fault.CopyFault.TheVariants as copy
use Rattle.mv_opening.specs.Opening.{block_of}
use Rattle.mv_opening.proofs.Opened.{copy_fault, got, index_of}
use Rattle.mv_opening.proofs.opening.take_copy.Goals as goal

pub returns-in-Err : goal.returns-in-Err
returns-in-Err c =
    let t = c.args.copy.table in
    let closed : c.args.copy.closed ≡ true = search rules in
    let info : slice_get c.args.infos.now t ≡ Some c.index-infos-table.result = got c.args.infos.now t c.index-infos-table.result c.requires.table (search rules) in
    let old : c.replace-rows.result ≡ rows_at c.args.tables.now t = sym (index_of c.args.tables.now t c.replace-rows.result _ c.replace-rows.ensures.back) in
    let tells = subst (λ (rs : List Keyed). (c.in-Err.fault ≡ copy.NoMemory) ⊎ IsFirstBad c.index-infos-table.result rs (records_of (block_of c.args.bytes.now c.args.copy)) c.in-Err.fault) old c.in-Err.ensures in
    copy_fault c.args.infos.now c.args.bytes.now c.args.tables.now c.args.copy c.index-infos-table.result c.in-Err.fault c.of_rows.result closed info tells c.of_rows.ensures

pub returns : goal.returns
returns c =
    let t = c.args.copy.table in
    let closed : c.args.copy.closed ≡ true = search rules in
    let info : slice_get c.args.infos.now t ≡ Some c.index-infos-table.result = got c.args.infos.now t c.index-infos-table.result c.requires.table (search rules) in
    let old : c.replace-rows.result ≡ rows_at c.args.tables.now t = sym (index_of c.args.tables.now t c.replace-rows.result _ c.replace-rows.ensures.back) in
    let loaded = subst (λ (rs : List Keyed). HasLoaded c.index-infos-table.result rs (records_of (block_of c.args.bytes.now c.args.copy)) c.join_records.new.joining) old c.in_default.ensures in
    (closed, c.index-infos-table.result, info, c.join_records.new.joining, loaded, c.set.ensures ∙ (ap (λ (db : List (List Keyed)). slice_set db t c.join_records.new.joining) c.replace-rows.ensures.items ∙ set-set c.args.tables.now t _ c.join_records.new.joining))

pub join_records-requires-clause-rising : goal.join_records-requires-clause-rising
join_records-requires-clause-rising c =
    let is = c.replace-rows.ensures.back in
    subst IsRising (get_or_from_slice_get c.args.tables.now c.args.copy.table c.replace-rows.result c.replace-rows.result is)
    (All-get_or IsRising c.args.tables.now c.args.copy.table c.replace-rows.result (slice_get_within c.args.tables.now c.args.copy.table c.replace-rows.result is) c.requires.rising)
