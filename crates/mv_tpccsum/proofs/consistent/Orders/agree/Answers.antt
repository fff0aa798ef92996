use Rattle.std.proofs.Common.{◌≡◌, ◌∙◌, ◌&&◌, ◌-ℤ◌, ap₂, pos, to_z, of_z, arith}
use Rattle.std.proofs.lemmas.Int.{ints}
use Rattle.std.specs.Ordering.{int_eq}
use mir.Syntax.{w128}
use Rattle.mv_tpccsum.specs.Grouping.{ends_at, queues}
use Rattle.mv_tpccsum.proofs.consistent.Orders.agree.Goals as goal

pub returns : goal.returns
returns c =
    let last : to_z w128 (of_z w128 c.before-last.result) ≡ c.args.next -ℤ pos 1 = omega (arith, ints, c.ranges.next, c.before-last.ensures, c.before-last.type_inv) in
    let sum : to_z w128 (of_z w128 c.sum_in.result) ≡ c.sum_in.result = omega (arith, ints, c.sum_in.type_inv) in
    c.all.ensures
    ∙ ap₂ ◌&&◌ (c.ends_at-ends.ensures ∙ ap₂ ends_at last c.get.ensures)
    (ap₂ ◌&&◌ (c.queues-queues.ensures ∙ ap₂ queues last c.get-2.ensures)
    (c.is_count-counts.ensures ∙ ap₂ (λ s n. int_eq s (pos n)) (sum ∙ c.sum_in.ensures) c.count_in.ensures))
