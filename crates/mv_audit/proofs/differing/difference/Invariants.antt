use Rattle.std.proofs.Common.{◌≡◌, ◌≤◌, ◌+◌, length, drop}
use Rattle.mv_audit.specs.Verdicts.{difference}
use Rattle.mv_audit.proofs.differing.difference.Given as goal

abbrev pub invariant-loop-i : goal.invariant-loop-i
invariant-loop-i l = record {
  within : l.i ≤ length l.text;
  few : l.n ≤ l.i + 1;
  left : difference l.n (drop l.i l.report) (drop l.i l.text) ≡ difference 1 l.report l.text;
}
