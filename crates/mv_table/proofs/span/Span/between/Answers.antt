use Rattle.std.proofs.Common.{◌≡◌, rules, subst, true, false}
use Rattle.std.specs.Ordering.{is_gt}
use Rattle.mv_values.specs.Order.{key_order}
use Rattle.mv_table.specs.Spans.{is_past}
use Rattle.mv_table.proofs.Spanning.{itself_forward, nothing_inside}
use Rattle.mv_table.proofs.span.Span.between.Goals as goal

pub returns-then-is_gt-clause-forward : goal.returns-then-is_gt-clause-forward
returns-then-is_gt-clause-forward c = rw c.in_ok-copy.ensures (itself_forward c.args.low)

pub returns-then-is_gt-clause-same : goal.returns-then-is_gt-clause-same
returns-then-is_gt-clause-same c = λ key from before.
    let above : is_gt (key_order c.args.low c.in-Some.end) ≡ true = search rules in
    absurd (nothing_inside c.args.low c.in-Some.end key above from (subst (λ h. is_past h key ≡ false) c.in-Some.is before))
