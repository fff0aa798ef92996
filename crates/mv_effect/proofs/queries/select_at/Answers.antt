use Rattle.std.proofs.Common.{rules, ◌≡◌, [], Option, OnOk, to_z, of_z, sym, ap, subst, ◌∙◌}
use mir.Syntax.{w64}
use Rattle.std.specs.Option.{option_copied}
use Rattle.std.proofs.lemmas.Iterator.Adapters.{option_map_id}
use Rattle.std.proofs.lemmas.List.{map-id}
use Rattle.mv_values.specs.declared.rows.Keyed.{Keyed}
use Rattle.mv_values.specs.Keys.{IsRising}
use Rattle.mv_eval.specs.Rows.{item_at, matching, ordered}
use Rattle.mv_log.specs.Logged.{Logged}
use Rattle.mv_recorded.specs.Effects.{effect_of_select}
use Rattle.mv_effect.specs.Asking.{asked}
use Rattle.mv_effect.proofs.AllRows.{all_rows}
use Rattle.mv_effect.proofs.queries.select_at.Goals as goal

pub chosen_row-requires : goal.chosen_row-requires
chosen_row-requires c = subst IsRising (sym (map-id c.args.rows.now)) c.requires.rising

pub returns-clause-ok : goal.returns-clause-ok
returns-clause-ok c =
    let log : Logged = c.args.log.now in
    let at : to_z w64 (of_z w64 c.args.at) ≡ c.args.at = search rules in
    let is =
    sym (option_map_id (option_copied c.in_ok-item.item))
    ∙ (c.in_ok-item.ensures ∙ (ap (λ rows. item_at (ordered c.args.query.now.sorts.now rows) (to_z w64 (of_z w64 c.args.at))) (all_rows c.args.rows.now) ∙ ap (item_at (ordered c.args.query.now.sorts.now (matching [] c.args.rows.now))) at)) in
    subst (λ (o : Option Keyed). OnOk c.select_row.result (c.select_row.new.log ≡ record log { effect = effect_of_select (asked log) c.args.query.now.columns.now c.args.to.now o c.args.env.now })) is c.select_row.ensures.ok
