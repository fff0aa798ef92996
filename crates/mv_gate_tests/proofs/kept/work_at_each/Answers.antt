use denote.Exit.{no}
use denote.Param.{param}
use denote.Param.Send.{sendable, param_sync, arg_sync, shr_sync}
use Rattle.std.specs.contracts.alloc.Global as Global
use Rattle.std.proofs.alloc.Global.TheSendSync as global
use Rattle.mv_gate.specs.contracts.gate.Gate as Gate
use Rattle.mv_gate.proofs.Crossing.{four_sync, gate_sync}
use Rattle.mv_gate_tests.specs.contracts.kept.Held as Held
use Rattle.mv_gate_tests.proofs.kept.Held.TheSendSync as held
use Rattle.mv_gate_tests.proofs.kept.work_at_each.Goals as goal

pub for_each_mut-requires-sync-F : goal.for_each_mut-requires-sync-F
for_each_mut-requires-sync-F g c κs within =
    let r = c.type_bounds.sync-R in
    let n = param 0 g.row.N in
    param_sync 2 _ (arg_sync _ no _ (four_sync _ _ _ _ _
    (shr_sync _ _ (param 1 g.row.R) (search (r, sendable)))
    (shr_sync _ _ Global.the_row global.the_sync)
    (shr_sync _ _ (Gate.the_row n g.N.Making g.N.Naming) (gate_sync n g.N.Making g.N.Naming))
    (shr_sync _ _ Held.the_row held.the_sync)))
