use Rattle.std.proofs.Common.{◌≡◌, ◌++◌, drop}
use Rattle.mv_recorded.specs.Reading.{each_once}
use Rattle.mv_recorded.proofs.Once.{new_to}
use Rattle.mv_recorded.proofs.reads.once_each.Given as goal

abbrev pub invariant-loop-number : goal.invariant-loop-number
invariant-loop-number l = l.all ++ new_to l.all (each_once (drop l.number-index l.numbers)) ≡ each_once l.numbers
