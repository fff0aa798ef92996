use Rattle.std.proofs.Common.{◌∙◌, sym, subst, slice_index_or}
use Rattle.std.specs.List.{All}
use Rattle.mv_values.specs.declared.rows.Keyed.{Keyed}
use Rattle.mv_values.specs.Keys.{IsBelow}
use Rattle.mv_values.specs.Preds.{matches}
use Rattle.mv_view.proofs.Finding.{kept_below}
use Rattle.mv_view.proofs.narrow.copy_matches.Goals as goal

pub push-requires : goal.push-requires
push-requires c =
    let low = kept_below (λ item. matches c.args.pred.now item.row) c.args.rows.now c.loop-item.item-index c.item-item.result c.requires c.loop-item-test.true in
    let same = c.in_ok-copy.ensures ∙ c.item-item.is in
    subst (λ (x : Keyed). All (IsBelow x.key) c.loop-item.found) (sym same) (subst (λ l. All (IsBelow (slice_index_or c.args.rows.now c.loop-item.item-index c.item-item.result).key) l) (sym c.loop-item.invariant) low)
