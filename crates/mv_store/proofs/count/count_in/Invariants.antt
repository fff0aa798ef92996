use Rattle.std.proofs.Common.{◌≡◌, ◌+◌, ◌-◌, ◌^◌, ◌≤◌, min}
use Rattle.mv_store.specs.Stored.{commits_in}
use Rattle.mv_store.proofs.count.count_in.Given as goal

abbrev pub invariant-loop-chain : goal.invariant-loop-chain
invariant-loop-chain l = record {
  fits : l.count ≤ 2 ^ 64 - 1;
  sum : min (l.count + commits_in l.chain-iterator) (2 ^ 64 - 1) ≡ min (commits_in l.fn.table) (2 ^ 64 - 1);
}
