use Rattle.std.proofs.Common.{◌<◌, subst, sym, ◌∙◌, arith}
use Rattle.mv_core.proofs.Lent.{count_here, count_later}
use Rattle.mv_core.proofs.output.line_count.Goals as goal
use Rattle.mv_core.proofs.output.line_count.Goals.{then-is_some, else-is_some}

pub loop-number-preserved : goal.loop-number-preserved
loop-number-preserved c =
    let rs = c.args.records.now in
    let i = c.loop-number.number in
    let k = c.loop-number.count in
    let n = c.if-is_some.count in
    let lt = subst (λ n. i < n) c.len-number-end.ensures c.loop-number-test.true in
    let few = c.loop-number.invariant.few in
    elim c.if-is_some.branch [
      | then-is_some w ↦
          let more = w.count-is in
          record {
            counts = count_here rs i k n c.get.result c.line.result lt c.get.ensures c.line.ensures (sym c.is_some.ensures ∙ w.if-is_some.true) c.loop-number.invariant.counts more;
            few = omega (arith, more, few);
          }
      | else-is_some w ↦
          let same = w.count-is in
          record {
            counts = count_later rs i k n c.get.result c.line.result lt c.get.ensures c.line.ensures (sym c.is_some.ensures ∙ w.if-is_some.false) c.loop-number.invariant.counts same;
            few = omega (arith, same, few);
          }
    ]
