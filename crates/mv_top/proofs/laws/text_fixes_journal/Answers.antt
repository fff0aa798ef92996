use Rattle.mv_top.proofs.Texts.{text_fixes_journal}
use Rattle.mv_top.proofs.laws.text_fixes_journal.Goals as goal

pub returns : goal.returns
returns c = text_fixes_journal
