use Rattle.std.proofs.Common.{◌≡◌, cond, Some, sym, ap, subst, ◌∙◌}
use Rattle.std.specs.Ordering.{is_eq}
use Rattle.mv_values.specs.Order.{key_order}
use Rattle.mv_table.specs.Entries.{item_of}
use Rattle.mv_index.specs.Listed.{listed, Rise, IsGapFor}
use Rattle.mv_index.proofs.Few.{item_kept, item_inserted, rise_inserted}
use Rattle.mv_index.proofs.few_keys.put_in.Goals as goal

pub returns-in_default-clause-ok : goal.returns-in_default-clause-ok
returns-in_default-clause-ok c k =
    subst (λ keys. item_of (listed keys) k ≡ cond (is_eq (key_order c.args.key k)) (Some tt) (item_of (listed keys) k)) c.as_slice.ensures.value
    (item_kept c.as_slice.result.now c.in_default.field-0 c.args.key k c.in_default.ensures.0 c.in_default.ensures.1)

pub returns-clause-rising : goal.returns-clause-rising
returns-clause-rising c =
    let same : c.as_slice.result.now ≡ c.make_room.new.keys.items = c.as_slice.ensures.value ∙ sym c.make_room.ensures in
    subst Rise (sym c.in_ok-insert.ensures.items)
    (rise_inserted c.make_room.new.keys.items c.in-Err.at c.args.key (subst Rise (sym c.make_room.ensures) c.requires) (subst (λ keys. IsGapFor keys c.args.key c.in-Err.at) same c.in-Err.ensures))

pub returns-clause-ok : goal.returns-clause-ok
returns-clause-ok c k =
    ap (λ keys. item_of (listed keys) k) c.in_ok-insert.ensures.items
    ∙ (item_inserted c.make_room.new.keys.items c.in-Err.at c.args.key k ∙ ap (λ keys. cond (is_eq (key_order c.args.key k)) (Some tt) (item_of (listed keys) k)) c.make_room.ensures)
