use Rattle.std.proofs.Common.{◌≡◌, ◌<◌, length, slice_index_or, refl, subst, sym, ◌∙◌, arith}
use Rattle.std.proofs.Math.ListN.{set}
use Rattle.std.proofs.lemmas.List.{get_or_default}
use Rattle.mv_undo.specs.Indexing.{owned_at, GoesBack, IsLast}
use Rattle.mv_undo.proofs.Shrinking.{goes_back, none_back, one_back}
use Rattle.mv_undo.proofs.links.go_back.Goals as goal

pub loop-index-init : goal.loop-index-init
loop-index-init c = none_back c.args.items.now c.args.number c.args.order.now.items

pub loop-index-preserved : goal.loop-index-preserved
loop-index-preserved c =
    let items = c.args.items.now in
    let first = c.args.order.now.items in
    let now = c.loop-index.order.items in
    let index = c.loop-index.index in
    let place = c.index-place.result.now in
    let write = (owned_at items place).write in
    let within : index < length first = omega (arith, c.loop-index-test.true, c.len-index-end.ensures) in
    let is : place ≡ slice_index_or now index 0 = c.index-place.ensures ∙ get_or_default now index place 0 (omega (arith, within, c.loop-index.invariant.len)) in
    let last : IsLast items place = subst (IsLast items) (sym (is ∙ c.loop-index.invariant.rest index (omega arith) within)) (c.requires.last index 0 within) in
    one_back items c.args.number first now (set now index c.unwrap_or.result) index place c.unwrap_or.result c.loop-index.invariant within is refl
    (subst (GoesBack items c.args.number place) (sym c.unwrap_or.ensures) (goes_back items c.args.number place c.last_before.result (c.last_before.ensures write.table write.key last)))
