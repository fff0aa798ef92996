use Rattle.std.proofs.Common.{rules}
use Rattle.mv_store.proofs.Rows.{rises_at}
use Rattle.mv_store.proofs.tables.TablesView.find_row.Goals as goal

pub find_row-requires : goal.find_row-requires
find_row-requires c = rises_at c.self.inside.tables.now c.args.table c.in-Some.table.now c.self.invariant (search rules) (search rules)
