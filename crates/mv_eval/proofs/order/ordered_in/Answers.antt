use Rattle.std.proofs.Common.{rules, ◌≡◌, [], length, map, ap, ◌∙◌}
use Rattle.std.proofs.lemmas.List.{nil_from_length}
use Rattle.mv_eval.specs.Rows.{ordered}
use Rattle.mv_eval.proofs.Sorting.{sorted_rising}
use Rattle.mv_eval.proofs.order.ordered_in.Goals as goal

pub returns-then-is_empty : goal.returns-then-is_empty
returns-then-is_empty g c =
    let empty : length c.args.sorts.now ≡ 0 = search rules in
    let none : c.args.sorts.now ≡ [] = nil_from_length c.args.sorts.now empty in
    let rows = map g.R.Stored.keyed c.args.rows.now in
    let same : ordered c.args.sorts.now rows ≡ rows = ap (λ ss. ordered ss rows) none ∙ sorted_rising rows c.requires in
    rw same c.references.ensures
