use Rattle.std.proofs.Common.{rules, ◌++◌, [], sym, ap, subst, ◌∙◌, arith}
use Rattle.std.proofs.lemmas.Result.{err_from_is_err_and}
use Rattle.mv_eval.specs.Alone.{alone}
use Rattle.mv_eval.specs.Results.{Leaves}
use Rattle.mv_recorded.specs.Recorded.{tell_statements}
use Rattle.mv_recorder.specs.Sites.{site_of}
use Rattle.mv_recorder.specs.Running.{Leave}
use Rattle.mv_recorder.proofs.Fitting.{holds_fit, place_fit, second_fit, size_some}
use Rattle.mv_recorder.proofs.Holding.{held_told, held_done, own_ends, own_fails}
use Rattle.mv_recorder.proofs.Telling.{next_told, next_turn}
use Rattle.mv_recorder.proofs.Turning.{done_statement, done_turn}
use Rattle.mv_recorder.proofs.running.+statements.Goals as goal

-- Statements

pub run_all-size_of-next-requires : goal.run_all-size_of-next-requires
run_all-size_of-next-requires t c =
    let small = (place_fit c.args.text.now.infos.now c.loop-statement.next c.args.statements.now c.loop-statement.statement-index c.statement-item.result c.loop-statement-test.true c.statement-item.is c.loop-statement.invariant.fit).1 in
    omega (arith, small)

pub run_all-overflow_add-next : goal.run_all-overflow_add-next
run_all-overflow_add-next t c =
    let small = (place_fit c.args.text.now.infos.now c.loop-statement.next c.args.statements.now c.loop-statement.statement-index c.statement-item.result c.loop-statement-test.true c.statement-item.is c.loop-statement.invariant.fit).1 in
    omega (arith, small, c.size_of-next.ensures)

pub run_all-loop-statement-preserved : goal.run_all-loop-statement-preserved
run_all-loop-statement-preserved t c =
    let tables = c.args.text.now.infos.now in
    let params = c.args.text.now.params in
    let ss = c.args.statements.now in
    let k = c.loop-statement.statement-index in
    let s = c.statement-item.result in
    let site = site_of c.args.site.now in
    let lt = c.loop-statement-test.true in
    let at = c.statement-item.is in
    let before = c.loop-statement.run in
    let after = c.run_one.new.run in
    let fit = place_fit tables c.loop-statement.next ss k s lt at c.loop-statement.invariant.fit in
    record {
      sound = c.in_ok-run_one.ensures.sound;
      fit = rw c.size_of-next.ensures fit.2;
      records =
          rw c.size_of-next.ensures
          (next_told tables params ss k s c.loop-statement.next site before.records after.records _ before.state after.state lt at c.in_ok-run_one.ensures.records c.in_ok-run_one.ensures.does c.loop-statement.invariant.records);
      does = done_statement tables ss k s before.state after.state _ lt at c.in_ok-run_one.ensures.does c.loop-statement.invariant.does;
      undo = c.in_ok-run_one.ensures.undo ∙ c.loop-statement.invariant.undo;
    }

-- A statement

pub run_one-overflow_add-first : goal.run_one-overflow_add-first
run_one-overflow_add-first t c = omega (arith, c.requires.small, size_some c.args.statement.now)

pub run_one-returns-clause-records : goal.run_one-returns-clause-records
run_one-returns-clause-records t c =
    let last = rw c.as_slice.ensures at c.in_ok-rows.ensures in
    subst (λ l. Leave c.run_held.result c.run_held.new.run.records l)
    (held_told c.args.text.now.infos.now c.args.text.now.params c.args.statement.now c.args.number c.len-own.result (site_of c.args.site.now) c.args.run.now.records c.add.new.run.records c.args.run.now.state c.add.new.run.state c.in_ok-rows.rows
    c.in_ok-add.ensures.does c.in_ok-add.ensures.records last c.len-own.ensures)
    (rw c.as_slice-2.ensures at c.run_held.ensures.records)

pub run_one-returns-clause-does : goal.run_one-returns-clause-does
run_one-returns-clause-does t c =
    let last = rw c.as_slice.ensures at c.in_ok-rows.ensures in
    subst (λ o. Leaves c.run_held.result c.run_held.new.run.state o)
    (sym (held_done c.args.text.now.infos.now c.args.text.now.params c.args.statement.now c.args.number (site_of c.args.site.now) c.args.run.now.records c.add.new.run.records c.args.run.now.state c.add.new.run.state c.in_ok-rows.rows
    c.in_ok-add.ensures.does c.in_ok-add.ensures.records last))
    (rw c.as_slice-2.ensures at c.run_held.ensures.does)

pub run_one-returns-in_err-add-clause-records : goal.run_one-returns-in_err-add-clause-records
run_one-returns-in_err-add-clause-records t c =
    let p = err_from_is_err_and c.from_residual.result c.from_residual.ensures.1 in
    rw (p.1, p.2)
    (own_ends c.args.text.now.infos.now c.args.text.now.params c.args.statement.now c.args.number (site_of c.args.site.now) c.args.run.now.records c.add.new.run.records c.args.run.now.state c.in_err-add.field-0.0
    c.in_err-add.ensures.does c.in_err-add.ensures.records)

pub run_one-returns-in_err-add-clause-does : goal.run_one-returns-in_err-add-clause-does
run_one-returns-in_err-add-clause-does t c =
    let p = err_from_is_err_and c.from_residual.result c.from_residual.ensures.1 in
    rw (p.1, p.2)
    (own_fails c.args.text.now.infos.now c.args.text.now.params c.args.statement.now c.args.number (site_of c.args.site.now) c.args.run.now.records c.args.run.now.state c.in_err-add.field-0.0 c.in_err-add.ensures.does)

-- What a statement holds

pub run_one-run_held-requires : goal.run_one-run_held-requires
run_one-run_held-requires t c = (
  search rules,
  (c.in_ok-add.ensures.sound, holds_fit c.args.text.now.infos.now c.args.number c.args.statement.now c.requires.fit c.requires.small),
)

pub run_second-run_all-requires : goal.run_second-run_all-requires
run_second-run_all-requires t c = (
  search rules,
  (c.requires.sound, second_fit c.args.text.now.infos.now c.args.first c.size_of_all.result c.args.yes.now c.args.no.now c.requires.fit c.size_of_all.ensures),
)

-- Turns

pub run_turns-loop-i-preserved : goal.run_turns-loop-i-preserved
run_turns-loop-i-preserved t c =
    let tables = c.args.text.now.infos.now in
    let body = c.args.body.now in
    let tells = tell_statements tables c.args.text.now.params body in
    let does = alone tables body in
    let rows = c.args.rows.now in
    let site = site_of c.args.site.now in
    let before = c.loop-i.run in
    let after = c.run_all.new.run in
    let told = rw (c.in_ok-set_held.ensures.ok, c.in_ok-copy.ensures, c.in_ok-inside.ensures) at c.in_ok-run_all.ensures.records in
    let did = rw (c.in_ok-set_held.ensures.ok, c.in_ok-copy.ensures) at c.in_ok-run_all.ensures.does in
    record {
      sound = c.in_ok-run_all.ensures.sound;
      records =
          next_turn c.args.row does tells rows c.loop-i.i c.index-rows-i.result c.args.number site before.records after.records _ before.state after.state c.loop-i-test.true c.index-rows-i.is told did c.loop-i.invariant.records;
      does = done_turn c.args.row does rows c.loop-i.i c.index-rows-i.result before.state after.state _ c.loop-i-test.true c.index-rows-i.is did c.loop-i.invariant.does;
      undo = c.in_ok-run_all.ensures.undo ∙ c.loop-i.invariant.undo;
    }
