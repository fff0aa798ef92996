use Rattle.std.proofs.Common.{rules, ◌≡◌, ◌+ℤ◌, ℤ, to_z, of_z, arith}
use Rattle.std.proofs.lemmas.Int.{ints}
use mir.Syntax.{w128}
use Rattle.mv_values.specs.Columns.{column_of, number}
use Rattle.mv_eval.proofs.Totalling.{sum_step}
use Rattle.mv_eval.proofs.totals.sum_in.Goals as goal

pub loop-item-preserved : goal.loop-item-preserved
loop-item-preserved g c =
    let sum : ℤ = to_z w128 c.loop-item.sum-bits in
    let new : ℤ = to_z w128 (of_z w128 c.plus-sum.result) in
    let added : new ≡ sum +ℤ c.number_at.result = omega (arith, ints, c.plus-sum.ensures, c.plus-sum.type_inv, c.number_at.type_inv) in
    let value : c.number_at.result ≡ number (column_of (g.R.Stored.keyed c.item-item.result).row c.args.c) = search rules in
    record {
      so_far = sum_step g.R.Stored.keyed c.args.c c.args.rows.now c.loop-item.item-index c.item-item.result sum c.number_at.result new _
          (omega arith) c.item-item.is value added c.loop-item.invariant.so_far;
      low = omega (arith, ints, added, c.number_at.type_inv, c.loop-item.invariant.low);
      high = omega (arith, ints, added, c.number_at.type_inv, c.loop-item.invariant.high);
    }
