use Rattle.std.proofs.Common.{◌≡◌, ◌++◌, [], map, drop}
use Rattle.mv_record.specs.Paths.{path, nests_behind}
use Rattle.mv_audit.specs.Comparing.{nest_in}
use Rattle.mv_audit.proofs.paths.paths_of.Given as goal

abbrev pub invariant-loop-record : goal.invariant-loop-record
invariant-loop-record l = record {
  nests : map nest_in l.nests ++ nests_behind (map nest_in l.nests) (drop l.record-index l.records) ≡ nests_behind [] l.records;
  all : l.all ≡ map path (map nest_in l.nests);
}
