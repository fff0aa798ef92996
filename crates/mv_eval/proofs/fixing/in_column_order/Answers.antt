use Rattle.std.proofs.Common.{rules, Bor, Bool, ap, ◌∙◌}
use Rattle.std.proofs.lemmas.Fn.{always_returns_same}
use Rattle.std.proofs.lemmas.List.Sorted.{ranks_by}
use Rattle.std.specs.Cmp.{IsStrictWeakOrder}
use Rattle.std.specs.Ordering.{is_lt}
use Rattle.mv_values.specs.declared.rows.Keyed.{Keyed}
use Rattle.mv_values.specs.Columns.{columns_of}
use Rattle.mv_values.specs.Order.{key_order}
use Rattle.mv_values.proofs.KeyOrder.{key_order_total}
use Rattle.mv_eval.specs.Rows.{sorted, projected}
use Rattle.mv_eval.proofs.Ranking.{projected_is}
use Rattle.mv_eval.proofs.fixing.in_column_order.Goals as goal

pub returns : goal.returns
returns g c =
    let seen : Bor g.row.R.Denot → Keyed = λ r. g.R.Stored.keyed r.now in
    let lt : Bor g.row.R.Denot → Bor g.row.R.Denot → Bool = λ a b. is_lt (key_order (columns_of (seen a).row c.args.columns.now) (columns_of (seen b).row c.args.columns.now)) in
    let order : IsStrictWeakOrder lt = ranks_by key_order_total (λ r. columns_of (seen r).row c.args.columns.now) in
    projected_is seen c.args.columns.now c.in_ok-all.all.items c.sort_by.new.self.items
    (c.in_ok-sort_by.ensures.sorted lt order (always_returns_same _ _ _ (λ a r f h. search rules)))
    (c.in_ok-sort_by.ensures.stable lt order (always_returns_same _ _ _ (λ a r f h. search rules)))
    ∙ ap (λ items. sorted key_order (projected c.args.columns.now items)) c.in_ok-all.ensures
