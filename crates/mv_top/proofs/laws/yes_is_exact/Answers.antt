use Rattle.mv_top.proofs.Auditing.{yes_is_exact, runs_get_yes}
use Rattle.mv_top.proofs.laws.yes_is_exact.Goals as goal

pub returns-clause-exact : goal.returns-clause-exact
returns-clause-exact c = yes_is_exact

pub returns-clause-runs : goal.returns-clause-runs
returns-clause-runs c = runs_get_yes
