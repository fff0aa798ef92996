use Rattle.std.proofs.Common.{◌≡◌, [], take}
use Rattle.mv_repair.specs.Repairing.{changes_since}
use Rattle.mv_repair.specs.Walking.{hits_in}
use Rattle.mv_repair.proofs.hits.hits_of.Given as goal

abbrev pub invariant-loop-number : goal.invariant-loop-number
invariant-loop-number l = l.flags ≡ hits_in (changes_since l.since) [] (take l.number l.records)
