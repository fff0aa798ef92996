use Rattle.std.proofs.Common.{length, sym, ap, ◌∙◌}
use Rattle.mv_undo.proofs.Placing.{owned_length}
use Rattle.mv_undo.proofs.items.Items.len.Goals as goal

pub returns : goal.returns
returns c = sym (owned_length c.self.inside.writes.now c.self.inside.places.now) ∙ ap length c.self.view_is
