use Rattle.std.proofs.Common.{rules, Bor, Bool, ap, ◌∙◌}
use Rattle.std.proofs.lemmas.Fn.{always_returns_same}
use Rattle.std.proofs.lemmas.List.Sorted.{ranks_by}
use Rattle.std.specs.Cmp.{IsStrictWeakOrder}
use Rattle.std.specs.Ordering.{is_lt}
use Rattle.mv_values.specs.declared.rows.Keyed.{Keyed}
use Rattle.mv_eval.specs.Rows.{sort_order, ordered}
use Rattle.mv_eval.proofs.Ranking.{sort_order_total, ordered_is}
use Rattle.mv_eval.proofs.order.sorted_in.Goals as goal

pub returns : goal.returns
returns g c =
    let seen : Bor g.row.R.Denot → Keyed = λ r. g.R.Stored.keyed r.now in
    let lt : Bor g.row.R.Denot → Bor g.row.R.Denot → Bool = λ a b. is_lt (sort_order c.args.sorts.now (seen a) (seen b)) in
    let order : IsStrictWeakOrder lt = ranks_by (sort_order_total c.args.sorts.now) seen in
    ordered_is seen c.args.sorts.now c.in_ok-all.all.items c.sort_by.new.self.items
    (c.in_ok-sort_by.ensures.sorted lt order (always_returns_same _ _ _ (λ a r f h. search rules)))
    (c.in_ok-sort_by.ensures.stable lt order (always_returns_same _ _ _ (λ a r f h. search rules)))
    ∙ ap (ordered c.args.sorts.now) c.in_ok-all.ensures
