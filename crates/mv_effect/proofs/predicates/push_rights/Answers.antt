use Rattle.std.proofs.Common.{◌<◌, ◌+◌, All, List, drop, sym, ap, subst, ◌∙◌}
use Rattle.std.specs.List.{flat_map}
use Rattle.mv_catalog.specs.declared.resolved.RSetItem.{RSetItem}
use Rattle.mv_log.specs.Logged.{Logged}
use Rattle.mv_recorded.specs.Asking.{columns_in}
use Rattle.mv_effect.specs.Asking.{all_once, with_columns}
use Rattle.mv_effect.proofs.Columns.{all_front, all_back, all_then, from_here}
use Rattle.mv_effect.proofs.predicates.push_rights.Goals as goal

pub push_named-requires : goal.push_named-requires
push_named-requires c =
    let items = c.args.items.now in
    let i = c.loop-item.item-index in
    let item = c.item-item.result in
    all_front (λ n. n < 256) (columns_in item.right) (flat_map (λ (i : RSetItem). columns_in i.right) (drop (i + 1) items))
    (subst (λ (l : List RSetItem). All (λ n. n < 256) (flat_map (λ i. columns_in i.right) l)) (from_here items i item c.loop-item-test.true c.item-item.is) c.loop-item.invariant.few)

pub loop-item-preserved : goal.loop-item-preserved
loop-item-preserved c =
    let old : Logged = c.args.log.now in
    let mid : Logged = c.loop-item.log in
    let new : Logged = c.push_named.new.log in
    let items = c.args.items.now in
    let i = c.loop-item.item-index in
    let item = c.item-item.result in
    let here = columns_in item.right in
    let rest = flat_map (λ (i : RSetItem). columns_in i.right) (drop (i + 1) items) in
    let here_on = from_here items i item c.loop-item-test.true c.item-item.is in
    let columns = ap (λ (l : Logged). l.columns) c.in_ok-push_named.ensures.ok in
    record {
      rest = c.in_ok-push_named.ensures.ok ∙ (ap (λ (l : Logged). with_columns l (all_once mid.columns here)) c.loop-item.invariant.rest ∙ ap (with_columns old) (sym columns));
      few = all_back (λ n. n < 256) here rest (subst (λ (l : List RSetItem). All (λ n. n < 256) (flat_map (λ i. columns_in i.right) l)) here_on c.loop-item.invariant.few);
      all =
          ap (λ cs. all_once cs rest) columns
          ∙ (all_then mid.columns here rest ∙ (ap (λ (l : List RSetItem). all_once mid.columns (flat_map (λ i. columns_in i.right) l)) (sym here_on) ∙ c.loop-item.invariant.all));
    }
