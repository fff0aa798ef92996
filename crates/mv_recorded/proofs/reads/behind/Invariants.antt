use Rattle.std.proofs.Common.{◌≡◌, ◌++◌, drop}
use Rattle.std.specs.Prelude.{nat_le}
use Rattle.std.specs.List.{filter}
use Rattle.mv_recorded.proofs.reads.behind.Given as goal

abbrev pub invariant-loop-number : goal.invariant-loop-number
invariant-loop-number l = l.all ++ filter (λ x. nat_le l.params x) (drop l.number-index l.numbers) ≡ filter (λ x. nat_le l.params x) l.numbers
