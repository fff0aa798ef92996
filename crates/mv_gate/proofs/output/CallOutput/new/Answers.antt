use Rattle.std.proofs.Common.{ap, ◌∙◌}
use Rattle.mv_core.specs.Output.{reply_told, writes_told}
use Rattle.mv_gate.proofs.output.CallOutput.new.Goals as goal

pub counted-requires : goal.counted-requires
counted-requires c = c.in_ok-reply.ensures

pub returns : goal.returns
returns c = (
  c.in_ok-reply.ensures ∙ ap reply_told c.records-all.ensures,
  c.in_ok-writes.ensures ∙ (c.counted.ensures ∙ ap writes_told c.records-all.ensures),
)
