use Rattle.std.proofs.Common.{ap, ◌∙◌}
use Rattle.mv_core.specs.Output.{reply_told}
use Rattle.mv_core.proofs.tasks.answer_task.Goals as goal

pub answer_told-requires-clause-reply : goal.answer_told-requires-clause-reply
answer_told-requires-clause-reply c = c.in_ok-reply.ensures ∙ ap reply_told c.records.ensures
