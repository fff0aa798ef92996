use Rattle.std.proofs.Common.{subst}
use Rattle.mv_values.specs.Keys.{IsRising}
use Rattle.mv_table.proofs.Storing.{stored_rising}
use Rattle.mv_table.proofs.table.Table.len.Goals as goal

pub returns-clause-rising : goal.returns-clause-rising
returns-clause-rising c = subst IsRising c.self.view_is (stored_rising c.self.inside.rows c.len.ensures.rising)
