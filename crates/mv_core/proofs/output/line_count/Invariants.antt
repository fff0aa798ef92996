use Rattle.std.proofs.Common.{◌≡◌, ◌≤◌, take, count_by, is_some}
use Rattle.mv_record.specs.declared.record.Record.{Record}
use Rattle.mv_core.proofs.output.line_count.Given as goal

abbrev pub invariant-loop-number : goal.invariant-loop-number
invariant-loop-number l =
    record {
      counts : l.count ≡ count_by (λ (r : Record). is_some r.line) (take l.number l.records);
      few : l.count ≤ l.number;
    }
