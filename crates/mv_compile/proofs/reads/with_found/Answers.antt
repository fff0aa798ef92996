use Rattle.mv_compile.proofs.reads.with_found.Goals as goal

pub returns : goal.returns
returns c = c.in_ok-push.ensures.ok
