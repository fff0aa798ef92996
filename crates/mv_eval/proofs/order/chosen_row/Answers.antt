use Rattle.std.proofs.Common.{rules, ◌≡◌, [], length, map, ap, sym, subst, ◌∙◌}
use Rattle.std.specs.Option.{option_copied, option_map}
use Rattle.std.proofs.lemmas.List.{nil_from_length}
use Rattle.mv_eval.specs.Rows.{ordered, item_at}
use Rattle.mv_eval.proofs.Sorting.{sorted_rising}
use Rattle.mv_eval.proofs.order.chosen_row.Goals as goal

pub returns-then-is_empty : goal.returns-then-is_empty
returns-then-is_empty g c =
    let empty : length c.args.sorts.now ≡ 0 = search rules in
    let none : c.args.sorts.now ≡ [] = nil_from_length c.args.sorts.now empty in
    let rows = map g.R.Stored.keyed c.args.rows.now in
    let same : ordered c.args.sorts.now rows ≡ rows = ap (λ ss. ordered ss rows) none ∙ sorted_rising rows c.requires in
    let here : option_map g.R.Stored.keyed (option_copied c.row_at.result) ≡ item_at rows c.args.at = search rules in
    subst (λ l. option_map g.R.Stored.keyed (option_copied c.row_at.result) ≡ item_at l c.args.at) (sym same) here
