use Rattle.std.proofs.Common.{◌≡◌, ◌≤◌, ◌+◌, drop}
use Rattle.mv_audit.specs.Verdicts.{ends_in}
use Rattle.mv_audit.proofs.lines.ends_in.Given as goal

abbrev pub invariant-loop-byte : goal.invariant-loop-byte
invariant-loop-byte l = record {
  few : l.count ≤ l.byte-index;
  left : l.count + ends_in (drop l.byte-index l.bytes) ≡ ends_in l.bytes;
}
