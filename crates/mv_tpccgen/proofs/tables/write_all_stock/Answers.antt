use Rattle.mv_tpccgen.specs.Rows.{stock_row}
use Rattle.mv_tpccgen.specs.Writing.{up_to}
use Rattle.mv_tpccgen.proofs.Growing.{up_to_none, grew_up_to}
use Rattle.mv_tpccgen.proofs.tables.write_all_stock.Goals as goal

pub loop-w-init : goal.loop-w-init
loop-w-init c = up_to_none (λ w. up_to 1000 (stock_row w)) c.args.text.now

pub loop-w-preserved : goal.loop-w-preserved
loop-w-preserved c =
    grew_up_to (λ w. up_to 1000 (stock_row w)) c.loop-w.w c.args.text.now c.loop-w.text c.write_stock_of.new.text c.loop-w.invariant c.in_ok-write_stock_of.ensures
