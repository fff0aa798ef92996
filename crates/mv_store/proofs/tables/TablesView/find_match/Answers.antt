use Rattle.std.proofs.Common.{rules}
use Rattle.mv_store.proofs.Rows.{rises_at}
use Rattle.mv_store.proofs.tables.TablesView.find_match.Goals as goal

pub find_match-requires : goal.find_match-requires
find_match-requires c = rises_at c.self.inside.tables.now c.args.pred.now.table c.in-Some.table.now c.self.invariant (rw (← c.table.ensures) (search rules)) (rw (← c.table.ensures) (search rules))
