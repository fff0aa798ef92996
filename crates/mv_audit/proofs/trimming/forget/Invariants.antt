use Rattle.std.proofs.Common.{◌≡◌, length, drop}
use Rattle.mv_audit.proofs.trimming.forget.Given as goal

abbrev pub invariant-loop-at : goal.invariant-loop-at
invariant-loop-at l = record {
  many : length l.commits ≡ length l.fn.commits;
  later : drop l.to l.commits ≡ drop l.to l.fn.commits;
}
