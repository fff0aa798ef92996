use Rattle.std.proofs.Common.{ap, sym, ◌∙◌}
use Rattle.mv_record.specs.Writes.{writes_on}
use Rattle.mv_undo.specs.Owning.{earlier, is_fixed}
use Rattle.mv_undo.proofs.Fixing.{whole_fixed}
use Rattle.mv_undo.proofs.undo.Undo.fixes.Goals as goal

pub returns-in-Some : goal.returns-in-Some
returns-in-Some c = c.is_whole.ensures ∙ whole_fixed c.in-Some.patch.now (writes_on c.args.table c.args.key.now (earlier c.args.number c.args.self.now)) c.in-Some.ensures

pub returns-in-None : goal.returns-in-None
returns-in-None c = sym (ap is_fixed c.in-None.ensures)
