use Rattle.std.proofs.Common.{rules, ◌∙◌}
use Rattle.std.proofs.lemmas.Result.{on_ok_weaker}
use Rattle.mv_compile.proofs.Equalities.{statement_taken, own_parts, own_first, both_held}
use Rattle.mv_compile.proofs.tested.+tested.Goals as goal

pub add_tested-loop-statement-preserved : goal.add_tested-loop-statement-preserved
add_tested-loop-statement-preserved t c =
    statement_taken c.loop-statement.all c.add_test.new.all c.args.statements.now c.loop-statement.statement-index c.statement-item.result c.loop-statement-test.true c.statement-item.is c.in_ok-add_test.ensures ∙ c.loop-statement.invariant

pub add_test-add_own-requires : goal.add_test-add_own-requires
add_test-add_own-requires t c = (own_parts c.args.statement.now c.requires).0

pub add_test-add_held-requires : goal.add_test-add_held-requires
add_test-add_held-requires t c = (search rules, (own_parts c.args.statement.now c.requires).1)

pub add_test-returns : goal.add_test-returns
add_test-returns t c = on_ok_weaker c.add_held.result (λ is. own_first c.args.all.now c.add_own.new.all c.add_held.new.all c.args.statement.now c.in_ok-add_own.ensures is) c.add_held.ensures

pub add_held-returns-in_ok-add_tested-in-Branch : goal.add_held-returns-in_ok-add_tested-in-Branch
add_held-returns-in_ok-add_tested-in-Branch t c = on_ok_weaker c.add_tested-in-Branch-2.result (λ h.
    both_held c.args.all.now c.add_tested-in-Branch.new.all c.add_tested-in-Branch-2.new.all c.args.statement.now c.in-Branch.test c.in-Branch.yes c.in-Branch.no c.as_slice-in-Branch.result.now c.as_slice-in-Branch-2.result.now
    c.in-Branch.is c.as_slice-in-Branch.ensures c.as_slice-in-Branch-2.ensures c.in_ok-add_tested-in-Branch.ensures h) c.add_tested-in-Branch-2.ensures
