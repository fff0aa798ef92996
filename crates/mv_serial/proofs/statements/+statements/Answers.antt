use Rattle.std.proofs.Common.{◌∙◌}
use Rattle.mv_serial.proofs.Turning.{next_statement, next_turn, fixed_first}
use Rattle.mv_eval.specs.Alone.{alone, fixed, loop_over}
use Rattle.mv_eval.specs.Rows.{tests_of, matching}
use Rattle.mv_values.specs.Tables.{key_columns, rows_at}
use Rattle.mv_serial.proofs.statements.+statements.Goals as goal

pub run_turns-returns-clause-does : goal.run_turns-returns-clause-does
run_turns-returns-clause-does t c =
    rw (fixed_first (tests_of (key_columns c.args.tables.now c.args.query.now.table) c.args.query.now.conds.now c.args.state.now.env) (λ tests. fixed c.args.once c.args.query.now.columns.now c.args.query.now.sorts.now (matching tests (rows_at c.args.state.now.tables c.args.query.now.table)))
    (λ rows. loop_over c.args.row (alone c.args.tables.now c.args.body.now) rows c.args.state.now) c.in_ok-rows.rows c.in_ok-rows.ensures)
    (rw c.as_slice.ensures at c.run_loop.ensures.does)

pub run_rows-returns-clause-does : goal.run_rows-returns-clause-does
run_rows-returns-clause-does t c = rw (c.as_slice.ensures, c.in_ok-rows.ensures) at c.run_loop.ensures.does

pub run_all-loop-statement-preserved : goal.run_all-loop-statement-preserved
run_all-loop-statement-preserved t c = record {
  keys = c.in_ok-run_one.ensures.keys;
  does = next_statement c.args.tables.now c.args.statements.now c.loop-statement.statement-index c.statement-item.result c.loop-statement.state c.run_one.new.state _ c.loop-statement-test.true c.statement-item.is c.in_ok-run_one.ensures.does c.loop-statement.invariant.does;
  undo = c.in_ok-run_one.ensures.undo ∙ c.loop-statement.invariant.undo;
}

pub run_loop-loop-one-preserved : goal.run_loop-loop-one-preserved
run_loop-loop-one-preserved t c = record {
  keys = c.in_ok-run_all.ensures.keys;
  does = next_turn c.args.row (alone c.args.tables.now c.args.body.now) c.args.rows.now c.loop-one.one-index c.one-item.result c.loop-one.state c.run_all.new.state _ c.loop-one-test.true c.one-item.is (rw (c.in_ok-set_held.ensures.ok, c.in_ok-copy.ensures) at c.in_ok-run_all.ensures.does) c.loop-one.invariant.does;
  undo = c.in_ok-run_all.ensures.undo ∙ c.loop-one.invariant.undo;
}
