use Rattle.std.proofs.Common.{◌∙◌}
use Rattle.mv_store.proofs.Found.{all_kept}
use Rattle.mv_values.specs.Tables.{rows_at}
use Rattle.mv_store.specs.Stored.{database_at}
use Rattle.mv_unit_tests.proofs.stores.all_rows.Goals as goal

pub returns : goal.returns
returns c = c.in_ok-into_rows.ensures ∙ (rw c.new-pred.ensures at c.in_ok-found.ensures.found ∙ all_kept (rows_at (database_at c.args.store.now c.args.n) c.args.table))
