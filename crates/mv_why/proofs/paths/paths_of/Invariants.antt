use Rattle.std.proofs.Common.{◌≡◌, take}
use Rattle.mv_record.specs.Paths.{paths}
use Rattle.mv_why.proofs.paths.paths_of.Given as goal

abbrev pub invariant-loop-number : goal.invariant-loop-number
invariant-loop-number l = l.all ≡ paths (take l.number l.records)
