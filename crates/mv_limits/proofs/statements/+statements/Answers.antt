use Rattle.mv_ast.specs.Limits.{statement_passes, statement_tokens}
use Rattle.mv_limits.proofs.Joining.{soonest_turn, soonest_end, seek_turn, seek_end, branch_best, branch_place}
use Rattle.mv_limits.proofs.statements.+statements.Goals as goal

pub in_statement-returns-in-Branch-clause-best : goal.in_statement-returns-in-Branch-clause-best
in_statement-returns-in-Branch-clause-best t c =
    let h = rw c.as_slice-in-Branch.ensures at c.in_statements-walk.ensures.best in
    let i = rw c.as_slice-in-Branch-2.ensures at c.in_statements-in-Branch.ensures.best in
    rw c.in-Branch.is (branch_best c.in-Branch.token c.in-Branch.test c.in-Branch.yes c.in-Branch.no c.args.walk.best c.in_statements-walk.result.best c.in_statements-in-Branch.result.best h i)

pub in_statement-returns-in-Branch-clause-place : goal.in_statement-returns-in-Branch-clause-place
in_statement-returns-in-Branch-clause-place t c =
    let h = rw (c.as_slice-in-Branch.ensures, c.behind-place-in-Branch.ensures) at c.in_statements-walk.ensures.place in
    let i = rw c.as_slice-in-Branch-2.ensures at c.in_statements-in-Branch.ensures.place in
    rw c.in-Branch.is (branch_place c.in-Branch.token c.in-Branch.test c.in-Branch.yes c.in-Branch.no c.args.walk.place c.in_statements-walk.result.place c.in_statements-in-Branch.result.place h i)

pub in_statements-loop-statement-preserved : goal.in_statements-loop-statement-preserved
in_statements-loop-statement-preserved t c = record {
  best = soonest_turn statement_passes c.args.statements.now c.loop-statement.statement-index c.statement-item.result c.loop-statement.walk.best c.in_statement-walk.result.best _ c.loop-statement-test.true c.statement-item.is
      c.in_statement-walk.ensures.best c.loop-statement.invariant.best;
  place = seek_turn statement_tokens c.args.statements.now c.loop-statement.statement-index c.statement-item.result c.loop-statement.walk.place c.in_statement-walk.result.place _ c.loop-statement-test.true c.statement-item.is
      c.in_statement-walk.ensures.place c.loop-statement.invariant.place;
}

pub in_statements-returns-clause-best : goal.in_statements-returns-clause-best
in_statements-returns-clause-best t c = soonest_end statement_passes c.args.statements.now c.loop-statement.statement-index c.loop-statement.walk.best _ c.loop-statement-test.false c.loop-statement.invariant.best

pub in_statements-returns-clause-place : goal.in_statements-returns-clause-place
in_statements-returns-clause-place t c = seek_end statement_tokens c.args.statements.now c.loop-statement.statement-index c.loop-statement.walk.place _ c.loop-statement-test.false c.loop-statement.invariant.place
