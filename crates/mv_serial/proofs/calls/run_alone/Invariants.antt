use Rattle.std.proofs.Common.{◌≡◌}
use Rattle.mv_values.specs.Tables.{KeysStand}
use Rattle.mv_eval.specs.TableAfter.{table_after}
use Rattle.mv_serial.proofs.InTurn.{replies_after}
use Rattle.mv_serial.proofs.calls.run_alone.Given as goal

abbrev pub invariant-loop-i : goal.invariant-loop-i
invariant-loop-i l = record {
  keys : KeysStand l.program.resolved.tables l.tables;
  tables : l.tables ≡ table_after l.program l.order l.i;
  replies : l.replies ≡ replies_after l.program l.order l.i;
}
