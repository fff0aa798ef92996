use Rattle.mv_report.proofs.Fixing.{text_fixes}
use Rattle.mv_report.proofs.laws.text_fixes_events.Goals as goal

pub returns : goal.returns
returns c = text_fixes
