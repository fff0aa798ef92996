use Rattle.std.proofs.Common.{rules, ◌≡◌, ◌∙◌, true, false, ap, sym, to_z, of_z, w64, arith}
use Rattle.std.proofs.lemmas.Int.{ints}
use Rattle.mv_tpccsum.specs.Grouping.{is_sum}
use Rattle.mv_tpccsum.proofs.Agreeing.{row_told}
use Rattle.mv_tpccsum.proofs.consistent.each_is_sum.Goals as goal

pub loop-item-preserved : goal.loop-item-preserved
loop-item-preserved c =
    let n = c.args.numbers.now in
    let z = c.number_at-number.result in
    let same : to_z w64 (of_z w64 z) ≡ z = omega (arith, ints, c.number_at-number.type_inv) in
    let told : c.is_sum.result ≡ true = search rules in
    row_told (is_sum c.args.groups.now) n.key n.place n.rows.now c.loop-item.item-index c.item-item.result c.in_ok-key.key z true _ (omega arith) c.item-item.is (search rules) (search rules)
    (ap (λ y. is_sum c.args.groups.now (c.in_ok-key.key, y)) (sym same) ∙ (sym c.is_sum.ensures ∙ told)) c.loop-item.invariant

pub returns-then-not-is_sum : goal.returns-then-not-is_sum
returns-then-not-is_sum c =
    let n = c.args.numbers.now in
    let z = c.number_at-number.result in
    let same : to_z w64 (of_z w64 z) ≡ z = omega (arith, ints, c.number_at-number.type_inv) in
    let told : c.is_sum.result ≡ false = search rules in
    row_told (is_sum c.args.groups.now) n.key n.place n.rows.now c.loop-item.item-index c.item-item.result c.in_ok-key.key z false _ (omega arith) c.item-item.is (search rules) (search rules)
    (ap (λ y. is_sum c.args.groups.now (c.in_ok-key.key, y)) (sym same) ∙ (sym c.is_sum.ensures ∙ told)) c.loop-item.invariant
