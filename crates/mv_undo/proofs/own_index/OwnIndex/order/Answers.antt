use Rattle.std.proofs.Common.{ap, ◌∙◌}
use Rattle.mv_undo.specs.Indexed.{Indexed}
use Rattle.mv_undo.proofs.own_index.OwnIndex.order.Goals as goal

pub returns : goal.returns
returns c = c.as_slice.ensures.value ∙ ap (λ (i : Indexed). i.order) c.self.view_is
