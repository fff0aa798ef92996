use Rattle.mv_tpccgen.specs.Rows.{district_row}
use Rattle.mv_tpccgen.proofs.Growing.{up_to_none, grew_up_to}
use Rattle.mv_tpccgen.proofs.tables.write_districts_of.Goals as goal

pub loop-d-init : goal.loop-d-init
loop-d-init c = up_to_none (district_row c.args.w) c.args.text.now

pub loop-d-preserved : goal.loop-d-preserved
loop-d-preserved c =
    grew_up_to (district_row c.args.w) c.loop-d.d c.args.text.now c.loop-d.text c.write_district.new.text c.loop-d.invariant c.in_ok-write_district.ensures
