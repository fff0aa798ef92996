use Rattle.mv_report.proofs.Lining.{text_has_journal}
use Rattle.mv_report.proofs.laws.text_has_journal.Goals as goal

pub returns : goal.returns
returns c = text_has_journal
