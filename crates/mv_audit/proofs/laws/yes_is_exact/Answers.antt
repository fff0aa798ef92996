use Rattle.mv_audit.proofs.Judging.{yes_is_lawful, lawful_is_yes}
use Rattle.mv_audit.proofs.laws.yes_is_exact.Goals as goal

pub returns-clause-only : goal.returns-clause-only
returns-clause-only c = yes_is_lawful

pub returns-clause-all : goal.returns-clause-all
returns-clause-all c = lawful_is_yes
