use Rattle.mv_top.proofs.Texts.{text_has_its_journal}
use Rattle.mv_top.proofs.laws.text_has_its_journal.Goals as goal

pub returns : goal.returns
returns c = text_has_its_journal
