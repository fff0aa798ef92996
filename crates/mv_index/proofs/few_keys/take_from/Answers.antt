use Rattle.std.proofs.Common.{◌≡◌, ◌<◌, cond, None, length, slice_index_or, ap, subst, ◌∙◌}
use Rattle.std.specs.Ordering.{is_eq}
use Rattle.mv_values.specs.Order.{key_order}
use Rattle.mv_table.specs.Entries.{item_of}
use Rattle.mv_index.specs.Listed.{listed}
use Rattle.mv_index.proofs.Few.{item_removed, item_absent}
use Rattle.mv_index.proofs.few_keys.take_from.Goals as goal

pub returns-in-Ok-clause-at : goal.returns-in-Ok-clause-at
returns-in-Ok-clause-at c k =
    let there =
    subst (λ keys. (c.in-Ok.at < length keys) × (slice_index_or keys c.in-Ok.at c.args.key.now ≡ c.args.key.now)) c.as_slice.ensures.value c.in-Ok.ensures in
    ap (λ keys. item_of (listed keys) k) c.remove.ensures.items ∙ item_removed c.args.keys.now.items c.in-Ok.at c.args.key.now k c.requires there.0 there.1

pub returns-in_default-clause-at : goal.returns-in_default-clause-at
returns-in_default-clause-at c k =
    subst (λ keys. item_of (listed keys) k ≡ cond (is_eq (key_order c.args.key.now k)) None (item_of (listed keys) k)) c.as_slice.ensures.value
    (item_absent c.as_slice.result.now c.in_default.field-0 c.args.key.now k c.in_default.ensures)
