use Rattle.std.proofs.Common.{cond, Some, take, sym, ap, ◌∙◌}
use Rattle.std.specs.Ordering.{is_eq}
use Rattle.mv_values.specs.Order.{key_order}
use Rattle.mv_table.specs.Entries.{item_of}
use Rattle.mv_index.specs.Listed.{listed}
use Rattle.mv_index.proofs.Few.{item_taken}
use Rattle.mv_index.proofs.few_keys.map_of.Goals as goal

pub loop-key-preserved : goal.loop-key-preserved
loop-key-preserved c k =
    let keys = c.args.keys.now in
    let i = c.loop-key.key-index in
    c.in_ok-put.ensures.at k
    ∙ (ap (cond (is_eq (key_order c.in_ok-copy.field-0 k)) (Some tt)) (c.loop-key.invariant k)
    ∙ (ap (λ key. cond (is_eq (key_order key k)) (Some tt) (item_of (listed (take i keys)) k)) c.in_ok-copy.ensures ∙ sym (item_taken keys i c.key-item.result k c.loop-key-test.true (sym c.key-item.is))))
