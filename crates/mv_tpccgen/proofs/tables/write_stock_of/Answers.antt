use Rattle.mv_tpccgen.specs.Rows.{stock_row}
use Rattle.mv_tpccgen.proofs.Growing.{up_to_none, grew_up_to}
use Rattle.mv_tpccgen.proofs.tables.write_stock_of.Goals as goal

pub loop-i-init : goal.loop-i-init
loop-i-init c = up_to_none (stock_row c.args.w) c.args.text.now

pub loop-i-preserved : goal.loop-i-preserved
loop-i-preserved c =
    grew_up_to (stock_row c.args.w) c.loop-i.i c.args.text.now c.loop-i.text c.write_stock.new.text c.loop-i.invariant c.in_ok-write_stock.ensures
