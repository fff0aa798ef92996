use Rattle.std.proofs.Common.{◌≡◌, drop}
use Rattle.mv_values.specs.Tables.{KeysStand}
use Rattle.mv_eval.specs.Alone.{alone, each_turn, loop_over}
use Rattle.mv_serial.specs.Changing.{KeepsUndo}
use Rattle.mv_serial.proofs.statements.+statements.Given as goal

abbrev pub invariant-run_all-loop-statement : goal.invariant-run_all-loop-statement
invariant-run_all-loop-statement l = record {
  keys : KeysStand l.tables l.state.tables;
  does : alone l.tables (drop l.statement-index l.statements) l.state ≡ alone l.tables l.statements l.fn.state;
  undo : KeepsUndo l.fn.undo l.fn.state.tables l.undo l.state.tables;
}

abbrev pub invariant-run_loop-loop-one : goal.invariant-run_loop-loop-one
invariant-run_loop-loop-one l = record {
  keys : KeysStand l.tables l.state.tables;
  does : each_turn l.row (alone l.tables l.body) (drop l.one-index l.rows) l.state ≡ loop_over l.row (alone l.tables l.body) l.rows l.fn.state;
  undo : KeepsUndo l.fn.undo l.fn.state.tables l.undo l.state.tables;
}
