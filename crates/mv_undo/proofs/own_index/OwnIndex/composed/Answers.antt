use Rattle.std.proofs.Common.{ap, ◌∙◌}
use Rattle.mv_undo.specs.Indexed.{Indexed}
use Rattle.mv_undo.proofs.own_index.OwnIndex.composed.Goals as goal

pub returns : goal.returns
returns c = c.as_slice.ensures.value ∙ ap (λ (i : Indexed). i.composed) c.self.view_is
