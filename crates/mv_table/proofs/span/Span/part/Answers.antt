use Rattle.std.proofs.Common.{rules, ◌∙◌, sym, subst}
use Rattle.mv_table.specs.Spans.{FindsAll}
use Rattle.mv_table.proofs.Covering.{covered}
use Rattle.std.proofs.lemmas.Fn.{always_returns_same}
use Rattle.mv_table.proofs.Parting.{under_span, before_end, parted_under, parted_before, span_order, span_part}
use Rattle.mv_table.proofs.span.Span.part.Goals as goal

pub part-requires-clause-order : goal.part-requires-clause-order
part-requires-clause-order c =
    span_order c.args.self.now c.args.rows.now c.partition_point-from.result c.partition_point-to.result c.requires.forward c.partition_point-from.ensures.bound
    (c.partition_point-from.ensures.partitioned (under_span c.args.self.now) (always_returns_same _ _ _ (λ a r f h. search rules)) (parted_under c.args.self.now c.args.rows.now c.requires.rising))
    (c.partition_point-to.ensures.partitioned (before_end c.args.self.now) (always_returns_same _ _ _ (λ a r f h. search rules)) (parted_before c.args.self.now c.args.rows.now c.requires.rising))

pub returns-clause-part : goal.returns-clause-part
returns-clause-part c =
    c.part.ensures
    ∙ span_part c.args.self.now c.args.rows.now c.partition_point-from.result c.partition_point-to.result c.requires.forward c.partition_point-from.ensures.bound c.partition_point-to.ensures.bound
    (c.partition_point-from.ensures.partitioned (under_span c.args.self.now) (always_returns_same _ _ _ (λ a r f h. search rules)) (parted_under c.args.self.now c.args.rows.now c.requires.rising))
    (c.partition_point-to.ensures.partitioned (before_end c.args.self.now) (always_returns_same _ _ _ (λ a r f h. search rules)) (parted_before c.args.self.now c.args.rows.now c.requires.rising))

pub returns-clause-finds : goal.returns-clause-finds
returns-clause-finds c = λ tests covers.
    subst (FindsAll tests c.args.rows.now) (sym (returns-clause-part c)) (covered tests c.args.self.now c.args.rows.now covers)
