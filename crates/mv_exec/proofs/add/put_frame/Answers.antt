use Rattle.std.proofs.Common.{length, ap, ◌∙◌, slice_set}
use Rattle.mv_exec.proofs.Stepping.{set_between}
use Rattle.mv_exec.proofs.add.put_frame.Goals as goal

pub returns-then-at-len : goal.returns-then-at-len
returns-then-at-len c = λ outer inner p e n.
    c.set.ensures ∙ (ap (λ k. slice_set c.args.frames.now k c.args.frame) n ∙ (ap (λ ps. slice_set ps (length outer) c.args.frame) e ∙ set_between outer inner p c.args.frame))
