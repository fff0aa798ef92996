use Rattle.std.proofs.Common.{rules, ◌≡◌, ◌+ℤ◌, ℤ, to_z, of_z, arith}
use Rattle.std.proofs.lemmas.Int.{ints}
use mir.Syntax.{w128}
use Rattle.mv_values.specs.Columns.{column_of, number}
use Rattle.mv_tpccsum.proofs.Loops.{number_at_place, sum_one}
use Rattle.mv_tpccsum.proofs.columns.Numbers.sum.Goals as goal

pub loop-item-preserved : goal.loop-item-preserved
loop-item-preserved c =
    let n = c.args.self.now in
    let i = c.loop-item.item-index in
    let sum : ℤ = to_z w128 c.loop-item.sum-bits in
    let new : ℤ = to_z w128 (of_z w128 c.plus-sum.result) in
    let added : new ≡ sum +ℤ c.number_at.result = omega (arith, ints, c.plus-sum.ensures, c.plus-sum.type_inv, c.number_at.type_inv) in
    let value : number (column_of c.item-item.result.row n.place) ≡ c.number_at.result = search rules in
    record {
      so_far = sum_one _ _ c.number_at.result sum new _ (number_at_place n.key n.place n.rows.now i c.item-item.result c.number_at.result (omega arith) c.item-item.is value) added c.loop-item.invariant.so_far;
      low = omega (arith, ints, added, c.number_at.type_inv, c.loop-item.invariant.low);
      high = omega (arith, ints, added, c.number_at.type_inv, c.loop-item.invariant.high);
    }
