use Rattle.std.proofs.Common.{◌++◌, All, sym, ap, subst, ◌∙◌}
use Rattle.std.proofs.lemmas.List.Elements.{All-push}
use Rattle.mv_values.specs.Keys.{IsRising, IsBelow}
use Rattle.mv_values.specs.Order.{key_order}
use Rattle.mv_values.specs.Patching.{placed, standing}
use Rattle.mv_values.proofs.Deciding.{less_is}
use Rattle.mv_undo.proofs.Merging.{below_next, put_between, taken_same, pushed_same, dropped_rising, dropped_same, at_key}
use Rattle.mv_undo.proofs.merge.Merge.pass.Goals as goal

pub push-requires : goal.push-requires
push-requires c =
    let was = c.loop-item.self in
    let new = c.take_up_to.new.self in
    let item = c.in-Some.item in
    let same = taken_same was.done was.ahead.items new.done new.ahead.items item (c.in-Some.ensures.done, c.in-Some.ensures.taken.1) in
    below_next new.done item new.ahead.items (subst IsRising (sym same) c.loop-item.invariant.rising)

pub loop-item-preserved-in-Continue-1 : goal.loop-item-preserved-in-Continue-1
loop-item-preserved-in-Continue-1 c =
    let key = c.args.key.now in
    let was = c.loop-item.self in
    let new = c.take_up_to.new.self in
    let item = c.in-Some.item in
    let is = c.in_ok-push.ensures.ok in
    let same = pushed_same was.done was.ahead.items new.done new.ahead.items c.push.new.self item (c.in-Some.ensures.done, c.in-Some.ensures.taken.1) is in
    let low = less_is (key_order item.key key) (sym c.is_below.ensures ∙ c.if-is_below.true) in
    record {
      rising = subst IsRising (sym same) c.loop-item.invariant.rising;
      below = subst (All (IsBelow key)) (sym is) (All-push (IsBelow key) new.done item (subst (All (IsBelow key)) (sym c.in-Some.ensures.done) c.loop-item.invariant.below) low);
      rows = λ row. ap (placed key row) same ∙ c.loop-item.invariant.rows row;
    }

pub loop-item-preserved : goal.loop-item-preserved
loop-item-preserved c =
    let key = c.args.key.now in
    let was = c.loop-item.self in
    let new = c.take_up_to.new.self in
    let item = c.in-Some.item in
    let same = taken_same was.done was.ahead.items new.done new.ahead.items item (c.in-Some.ensures.done, c.in-Some.ensures.taken.1) in
    let here = at_key (key_order item.key key) c.in-Some.ensures.taken.0 (sym c.is_below.ensures ∙ c.if-is_below.false) in
    let below = subst (All (IsBelow key)) (sym c.in-Some.ensures.done) c.loop-item.invariant.below in
    let rising = subst IsRising (sym same) c.loop-item.invariant.rising in
    record {
      rising = dropped_rising new.done item new.ahead.items key here below rising;
      below = below;
      rows = λ row. dropped_same new.done item new.ahead.items key here below rising row ∙ (ap (placed key row) same ∙ c.loop-item.invariant.rows row);
    }

pub returns-clause-rows : goal.returns-clause-rows
returns-clause-rows c = λ row.
    let key = c.args.key.now in
    let was = c.loop-item.self in
    let new = c.take_up_to.new.self in
    sym (c.loop-item.invariant.rows row)
    ∙ (put_between key row was.done was.ahead.items new.ahead.items c.loop-item.invariant.below c.in_default.ensures.rest.1 c.in_default.ensures.rest.0
    ∙ ap (λ l. l ++ standing key row ++ new.ahead.items) (sym c.in_default.ensures.done))
