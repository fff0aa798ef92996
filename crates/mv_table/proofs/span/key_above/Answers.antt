use Rattle.std.proofs.Common.{length}
use Rattle.mv_values.specs.Columns.{column_of}
use Rattle.mv_table.proofs.Spanning.{ends_above, front_and_last, at_most}
use Rattle.mv_table.proofs.span.key_above.Goals as goal

pub returns-in_ok-key_with-in-Some : goal.returns-in_ok-key_with-in-Some
returns-in_ok-key_with-in-Some c = λ key agree.
    let parts = front_and_last key c.args.front.now c.in-Some.first.now c.in-Some.last.now c.in-Some.ensures.cases.0 agree in
    ends_above key c.in-Some.first.now c.in_ok-key_with-in-Some.field-0 c.in_ok-above-in-Some.above c.in_ok-key_with-in-Some.ensures parts.0
    (c.in_ok-above-in-Some.ensures (column_of key (length c.in-Some.first.now)) (at_most _ _ parts.1))
