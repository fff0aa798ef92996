use Rattle.std.proofs.Common.{◌≡◌, ◌++◌}
use Rattle.std.specs.List.{flat_map}
use Rattle.mv_tpccgen.specs.Calls.{request, call_text}
use Rattle.mv_tpccgen.specs.Draws.{each, words_at, words_from}
use Rattle.mv_tpccgen.proofs.workload.write_calls.Given as goal

abbrev pub invariant-loop-k : goal.invariant-loop-k
invariant-loop-k l = (l.text ≡ l.fn.text ++ flat_map call_text (each (request l.load.warehouses) l.k (words_from l.load.seed)).0) × (words_at l.words ≡ (each (request l.load.warehouses) l.k (words_from l.load.seed)).1)
