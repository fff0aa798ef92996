-- The loads that a script can be generated for.
use Rattle.std.specs.Prelude.{◌≤◌}
use Rattle.mv_tpccgen.specs.declared.load.Load.{Load}

-- 1 to 16 warehouses, and at most 40000 calls
pub record IsLoad (load : Load) : Type 0 where
  pub some : 1 ≤ load.warehouses
  pub few : load.warehouses ≤ 16
  pub calls : load.calls ≤ 40000
