use Rattle.std.proofs.Common.{◌≡◌, ◌++◌, drop, map}
use Rattle.std.specs.Option.{option_map}
use Rattle.mv_tpccsum.specs.Tables.{column_places}
use Rattle.mv_tpccsum.proofs.columns.column_places.Given as goal

abbrev pub invariant-loop-name : goal.invariant-loop-name
invariant-loop-name l = option_map (λ rest. l.places ++ rest) (column_places l.columns (map (λ n. n.now) (drop l.name-index l.names))) ≡ column_places l.columns (map (λ n. n.now) l.names)
