use Rattle.mv_table.proofs.Spanning.{begins_all}
use Rattle.mv_table.proofs.span.without_last_zeros.Goals as goal

pub returns : goal.returns
returns c = λ key h.
    rw c.truncate.ensures
    (begins_all key c.args.front c.as_slice-value-items.result.now c.loop-i.keep c.loop-i.i c.as_slice-value-items.ensures c.loop-i.invariant.within c.loop-i.auto.i-end c.loop-i.invariant.last h)
