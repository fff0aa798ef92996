use Rattle.mv_tpccgen.specs.Tables.{numbered_rows}
use Rattle.mv_tpccgen.specs.Writing.{up_to}
use Rattle.mv_tpccgen.proofs.Growing.{up_to_none, grew_up_to}
use Rattle.mv_tpccgen.proofs.tables.write_in_warehouse.Goals as goal

pub loop-d-init : goal.loop-d-init
loop-d-init c = up_to_none (λ d. up_to 30 (numbered_rows c.args.table c.args.w d)) c.args.text.now

pub loop-d-preserved : goal.loop-d-preserved
loop-d-preserved c =
    grew_up_to (λ d. up_to 30 (numbered_rows c.args.table c.args.w d)) c.loop-d.d c.args.text.now c.loop-d.text c.write_in_district.new.text c.loop-d.invariant c.in_ok-write_in_district.ensures
