use Rattle.mv_tpccgen.specs.Rows.{warehouse_row}
use Rattle.mv_tpccgen.proofs.Growing.{up_to_none, grew_up_to}
use Rattle.mv_tpccgen.proofs.tables.write_warehouses.Goals as goal

pub loop-w-init : goal.loop-w-init
loop-w-init c = up_to_none warehouse_row c.args.text.now

pub loop-w-preserved : goal.loop-w-preserved
loop-w-preserved c =
    grew_up_to warehouse_row c.loop-w.w c.args.text.now c.loop-w.text c.write_warehouse.new.text c.loop-w.invariant c.in_ok-write_warehouse.ensures
