use Rattle.mv_tpccgen.specs.Tables.{numbered_rows}
use Rattle.mv_tpccgen.proofs.Growing.{up_to_none, grew_up_to}
use Rattle.mv_tpccgen.proofs.tables.write_in_district.Goals as goal

pub loop-n-init : goal.loop-n-init
loop-n-init c = up_to_none (numbered_rows c.args.table c.args.w c.args.d) c.args.text.now

pub loop-n-preserved : goal.loop-n-preserved
loop-n-preserved c =
    grew_up_to (numbered_rows c.args.table c.args.w c.args.d) c.loop-n.n c.args.text.now c.loop-n.text c.write_numbered.new.text c.loop-n.invariant c.in_ok-write_numbered.ensures
