use Rattle.std.proofs.Common.{◌≡◌, ◌++◌, codes, take}
use Rattle.std.specs.List.{flat_map}
use Rattle.mv_report.specs.Text.{in_quotes}
use Rattle.mv_report.proofs.replies.write_quoted.Given as goal

abbrev pub invariant-loop-byte : goal.invariant-loop-byte
invariant-loop-byte l = l.text ≡ l.fn.text ++ codes "'" ++ flat_map in_quotes (take l.byte-index l.reason)
