use Rattle.std.proofs.Common.{◌∙◌}
use Rattle.mv_undo.proofs.Linking.{touched_last}
use Rattle.mv_undo.proofs.undo.Undo.touched.Goals as goal

pub returns : goal.returns
returns c = c.is_some.ensures ∙ touched_last c.args.number c.args.table c.args.key.now c.args.self.now c.last_earlier.result c.last_earlier.ensures
