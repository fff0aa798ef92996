use Rattle.std.proofs.Common.{[], true, false, List, refl, sym, ap, ◌∙◌}
use Rattle.mv_values.specs.declared.value.Value.{Value}
use Rattle.mv_values.specs.declared.rows.Keyed.{Keyed}
use Rattle.mv_values.specs.Patching.{row_of, placed}
use Rattle.mv_values.specs.Tables.{rows_at}
use Rattle.mv_record.specs.Writes.{writes_on}
use Rattle.mv_undo.specs.Owning.{earlier, is_fixed}
use Rattle.mv_effect.proofs.Asked.{with_rows_under, rows_under_none, rows_under_more, asked_less, asked_row}
use Rattle.mv_effect.proofs.rows.rows_under.Goals as goal

pub returns-clause-found : goal.returns-clause-found
returns-clause-found g c = λ key among unfixed.
    rows_under_none (rows_at (g.V.View.sight c.args.view.now).database c.args.table) c.loop-key.own (λ k. is_fixed (writes_on c.args.table k (earlier c.args.number c.args.undo.now))) c.args.keys.now c.loop-key.key-index key c.loop-key-test.false c.loop-key.invariant.own
    among unfixed

pub loop-key-preserved-then-fixes : goal.loop-key-preserved-then-fixes
loop-key-preserved-then-fixes g c =
    let rows = rows_at (g.V.View.sight c.args.view.now).database c.args.table in
    let test = λ (k : List Value). is_fixed (writes_on c.args.table k (earlier c.args.number c.args.undo.now)) in
    record {
      own =
          rows_under_more rows c.loop-key.own c.loop-key.own test c.args.keys.now c.loop-key.key-index c.key-item.result (with_rows_under rows test c.args.keys.now []) true c.loop-key-test.true c.key-item.is
          (sym c.fixes.ensures ∙ c.if-fixes.true) refl c.loop-key.invariant.own;
      asked = asked_less c.loop-key.key-index (g.V.View.sight c.args.view.now) (g.V.View.sight c.loop-key.view) c.loop-key.invariant.asked;
    }

pub loop-key-preserved : goal.loop-key-preserved
loop-key-preserved g c =
    let rows = rows_at (g.V.View.sight c.args.view.now).database c.args.table in
    let test = λ (k : List Value). is_fixed (writes_on c.args.table k (earlier c.args.number c.args.undo.now)) in
    let key = c.key-item.result in
    record {
      own =
          rows_under_more rows c.loop-key.own c.add_row.new.own test c.args.keys.now c.loop-key.key-index key (with_rows_under rows test c.args.keys.now []) false c.loop-key-test.true c.key-item.is
          (sym c.fixes.ensures ∙ c.if-fixes.false)
          (c.in_ok-add_row.ensures.found ∙ ap (λ (db : List (List Keyed)). placed key (row_of (rows_at db c.args.table) key) c.loop-key.own) c.loop-key.invariant.asked.same.database) c.loop-key.invariant.own;
      asked =
          asked_row c.loop-key.key-index (g.V.View.sight c.args.view.now) (g.V.View.sight c.loop-key.view) (g.V.View.sight c.add_row.new.view) c.loop-key.invariant.asked c.in_ok-add_row.ensures.counts;
    }
