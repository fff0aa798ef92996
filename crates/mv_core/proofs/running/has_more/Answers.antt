use Rattle.std.proofs.Common.{arith, ap, length, ◌∙◌}
use Rattle.std.specs.Prelude.{not}
use Rattle.mv_core.proofs.Taking.{left_told}
use Rattle.mv_core.proofs.running.has_more.Goals as goal

pub returns-else-steps-len : goal.returns-else-steps-len
returns-else-steps-len c g call db rest is rise leaves =
    let same = c.len.ensures ∙ ap length c.records.ensures in
    let le = c.if-steps-len.false in
    let few = c.requires in
    ap not c.ended.ensures ∙ left_told g call db c.args.task.now rest c.args.steps is rise leaves (omega (arith, same, le, few))
