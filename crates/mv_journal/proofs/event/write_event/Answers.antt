use Rattle.std.proofs.Common.{rules}
use Rattle.mv_journal.proofs.event.write_event.Goals as goal

pub returns-in-C-clause-ok : goal.returns-in-C-clause-ok
returns-in-C-clause-ok c = search rules

pub returns-in-G-clause-ok : goal.returns-in-G-clause-ok
returns-in-G-clause-ok c = search rules
