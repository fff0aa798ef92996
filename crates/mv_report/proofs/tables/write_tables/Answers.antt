use Rattle.std.proofs.Common.{arith}
use Rattle.mv_report.proofs.Steps.{pair_grew, pairs_grew}
use Rattle.mv_report.specs.Text.{table_text}
use Rattle.mv_report.proofs.tables.write_tables.Goals as goal

pub loop-place-preserved : goal.loop-place-preserved
loop-place-preserved c =
    pair_grew (λ both. table_text both.0 both.1) c.args.tables.now c.args.database.now c.loop-place.place c.index-tables-place.result c.index-database-place.result c.args.text.now c.loop-place.text c.write_table.new.text (omega arith) (omega arith)
    c.index-tables-place.is c.index-database-place.is c.loop-place.invariant c.in_ok-write_table.ensures

pub returns : goal.returns
returns c = pairs_grew (λ both. table_text both.0 both.1) c.args.tables.now c.args.database.now c.loop-place.place c.args.text.now _ (omega arith) c.loop-place.invariant
