use Rattle.std.proofs.Common.{◌∙◌}
use Rattle.mv_effect.proofs.rows.only_rows.Goals as goal

pub returns-clause-found : goal.returns-clause-found
returns-clause-found g c = c.one.ensures ∙ c.in_ok-item.ensures.found
