-- The whole script of a load.
use Rattle.std.specs.Prelude.{ℕ, List, ◌++◌}
use Rattle.std.specs.List.{flat_map}
use Rattle.mv_tpcc.specs.Script.{script}
use Rattle.mv_tpccgen.specs.declared.load.Load.{Load}
use Rattle.mv_tpccgen.specs.declared.request.Request.{Request}
use Rattle.mv_tpccgen.specs.Calls.{request, call_text}
use Rattle.mv_tpccgen.specs.Draws.{each, words_from}
use Rattle.mv_tpccgen.specs.Tables.{copies}

-- the calls of a load
unfoldable pub requests : Load → List Request
requests load = (each (request load.warehouses) load.calls (words_from load.seed)).0

-- the statements that create the tables and procedures, the rows, and the calls
unfoldable pub workload : Load → List ℕ
workload load = script ++ (copies load.warehouses ++ flat_map call_text (requests load))
