use Rattle.std.proofs.Common.{rules, ◌≡◌, ◌∙◌, true, false, ap, sym, to_z, of_z, w64, arith}
use Rattle.std.proofs.lemmas.Int.{ints}
use Rattle.mv_tpccsum.specs.Grouping.{orders_agree}
use Rattle.mv_tpccsum.proofs.Agreeing.{row_told}
use Rattle.mv_tpccsum.proofs.consistent.each_agrees.Goals as goal

pub loop-item-preserved : goal.loop-item-preserved
loop-item-preserved c =
    let n = c.args.districts.now in
    let z = c.number_at-next.result in
    let same : to_z w64 (of_z w64 z) ≡ z = omega (arith, ints, c.number_at-next.type_inv) in
    let told : c.agree.result ≡ true = search rules in
    row_told (orders_agree c.args.orders.now) n.key n.place n.rows.now c.loop-item.item-index c.item-item.result c.in_ok-key.key z true _ (omega arith) c.item-item.is (search rules) (search rules)
    (ap (λ y. orders_agree c.args.orders.now (c.in_ok-key.key, y)) (sym same) ∙ (sym c.agree.ensures ∙ told)) c.loop-item.invariant

pub returns-then-not-agree : goal.returns-then-not-agree
returns-then-not-agree c =
    let n = c.args.districts.now in
    let z = c.number_at-next.result in
    let same : to_z w64 (of_z w64 z) ≡ z = omega (arith, ints, c.number_at-next.type_inv) in
    let told : c.agree.result ≡ false = search rules in
    row_told (orders_agree c.args.orders.now) n.key n.place n.rows.now c.loop-item.item-index c.item-item.result c.in_ok-key.key z false _ (omega arith) c.item-item.is (search rules) (search rules)
    (ap (λ y. orders_agree c.args.orders.now (c.in_ok-key.key, y)) (sym same) ∙ (sym c.agree.ensures ∙ told)) c.loop-item.invariant
