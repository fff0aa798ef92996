use Rattle.mv_table.proofs.Spanning.{ends_above}
use Rattle.mv_values.specs.Columns.{column_of}
use Rattle.std.proofs.Common.{length}
use Rattle.mv_table.proofs.span.high_end.Goals as goal

pub returns-in_ok-key_with-in-Some : goal.returns-in_ok-key_with-in-Some
returns-in_ok-key_with-in-Some c = λ key so agree.
    ends_above key c.args.front.now c.in_ok-key_with-in-Some.field-0 c.in_ok-end-in-Some.end c.in_ok-key_with-in-Some.ensures agree
    (c.in_ok-end-in-Some.ensures (column_of key (length c.args.front.now)) (c.in-Some.ensures.holds key so))
