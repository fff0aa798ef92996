use Rattle.std.proofs.Common.{nat_lt, ap, ◌∙◌}
use Rattle.mv_exec.proofs.Positioning.{tells_end, none_ends}
use Rattle.mv_exec.proofs.frames.is_before_end.Goals as goal

pub returns-in-Some : goal.returns-in-Some
returns-in-Some c = λ block text some.
    ap (λ n. nat_lt n c.in-Some.step.now.left) c.saturating_sub.ensures
    ∙ tells_end c.args.graph.now c.args.frame c.in-Some.step.now block c.requires c.in-Some.ensures text some

pub returns-in-None : goal.returns-in-None
returns-in-None c = λ block text some. none_ends c.args.graph.now c.args.frame block c.requires c.in-None.ensures text some
