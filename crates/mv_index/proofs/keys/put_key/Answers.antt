use Rattle.std.proofs.Common.{◌≡◌, ◌∙◌, true, sym, ap, rules}
use Rattle.std.specs.Ordering.{is_eq}
use Rattle.mv_values.specs.Order.{key_order}
use Rattle.mv_table.specs.Entries.{item_of}
use Rattle.mv_index.specs.Forms.{held}
use Rattle.mv_index.proofs.Forms.{one_kept}
use Rattle.mv_index.proofs.keys.put_key.Goals as goal

pub returns-in-One-clause-ok : goal.returns-in-One-clause-ok
returns-in-One-clause-ok c =
    let first = c.order.ensures in
    let second = c.is_eq.ensures in
    let third = c.if-is_eq.true in
    let same : is_eq (key_order c.in-One.only c.args.key) ≡ true = search (rules, first, second, third) in
    λ k. ap (λ f. item_of (held f) k) (sym c.in-One.is) ∙ one_kept c.args.form.now c.in-One.only c.args.key k c.in-One.is same
