use Rattle.std.proofs.Common.{◌≡◌, ◌++◌, length, drop}
use Rattle.mv_effect.specs.Logging.{with_rows}
use Rattle.mv_effect.proofs.tableless.push_turns.Given as goal

abbrev pub invariant-loop-at : goal.invariant-loop-at
invariant-loop-at l = record {
  rest : l.log ≡ with_rows l.fn.log l.log.effect.rows;
  rows : l.log.effect.rows ++ drop l.at l.rows ≡ l.fn.rows;
  len : length l.rows ≡ l.at-end;
}
