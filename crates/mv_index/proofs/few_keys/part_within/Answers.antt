use Rattle.std.proofs.Common.{rules, ◌∙◌}
use Rattle.std.proofs.lemmas.Fn.{always_returns_same}
use Rattle.mv_index.proofs.Few.{under_span, before_end, parted_under, parted_before, span_order, span_part}
use Rattle.mv_index.proofs.few_keys.part_within.Goals as goal

pub part-requires-clause-order : goal.part-requires-clause-order
part-requires-clause-order c =
    span_order c.args.span.now c.args.keys.now c.partition_point-from.result c.partition_point-to.result c.requires.forward c.partition_point-from.ensures.bound
    (c.partition_point-from.ensures.partitioned (under_span c.args.span.now) (always_returns_same _ _ _ (λ a r f h. search rules)) (parted_under c.args.span.now c.args.keys.now c.requires.rising))
    (c.partition_point-to.ensures.partitioned (before_end c.args.span.now) (always_returns_same _ _ _ (λ a r f h. search rules)) (parted_before c.args.span.now c.args.keys.now c.requires.rising))

pub returns : goal.returns
returns c =
    c.part.ensures
    ∙ span_part c.args.span.now c.args.keys.now c.partition_point-from.result c.partition_point-to.result c.requires.forward c.partition_point-from.ensures.bound c.partition_point-to.ensures.bound
    (c.partition_point-from.ensures.partitioned (under_span c.args.span.now) (always_returns_same _ _ _ (λ a r f h. search rules)) (parted_under c.args.span.now c.args.keys.now c.requires.rising))
    (c.partition_point-to.ensures.partitioned (before_end c.args.span.now) (always_returns_same _ _ _ (λ a r f h. search rules)) (parted_before c.args.span.now c.args.keys.now c.requires.rising))
