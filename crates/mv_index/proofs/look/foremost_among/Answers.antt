use Rattle.std.proofs.Common.{◌≡◌, Some, None, length, refl, sym, ap, subst, ◌∙◌, arith}
use Rattle.mv_values.specs.declared.rows.Keyed.{Keyed}
use Rattle.mv_values.specs.Patching.{row_of}
use Rattle.mv_values.specs.Preds.{matched}
use Rattle.mv_values.specs.Tables.{rows_at}
use Rattle.mv_table.specs.Scans.{foremost}
use Rattle.mv_table.specs.Spans.{CoversAdmitted}
use Rattle.mv_view.specs.Narrowing.{outside}
use Rattle.mv_index.specs.Forms.{several, left}
use Rattle.mv_index.proofs.Asked.{only_then, passes_ok}
use Rattle.mv_index.proofs.Finding.{found_at, all_found, keys_within, within_rise, fewer_within, first_there, first_later, first_passed, one_more_left, none_first_left}
use Rattle.mv_index.proofs.look.foremost_among.Goals as goal

pub loop-key-init : goal.loop-key-init
loop-key-init g c =
    let pred = c.args.pred.now in
    let rows = rows_at (g.V.View.sight c.args.view.now).database pred.table in
    let span = c.in_ok-span.span in
    let covers = subst (λ tests. CoversAdmitted tests span) c.tests.ensures c.in_ok-span.ensures.covers in
    let are = c.within-left.ensures.items in
    record {
      row = ap (λ l. foremost c.args.direction (outside (g.K.KeySet.has c.args.passed.now) l))
          (rw are (all_found pred rows _ (within_rise span (several c.args.keys) c.within-left.ensures.rising) (c.requires.rising pred.table) (keys_within pred rows (several c.args.keys) span covers c.requires.admitted c.requires.all)));
      same = refl;
      for_rows = omega arith;
      for_row = let few = fewer_within span (several c.args.keys) in let here = ap length are in omega (arith, few, here);
    }

pub loop-key-preserved-then-contains : goal.loop-key-preserved-then-contains
loop-key-preserved-then-contains g c =
    let rows = rows_at (g.V.View.sight c.args.view.now).database c.args.pred.now.table in
    record {
      row = first_passed c.args.pred.now rows (g.K.KeySet.has c.args.passed.now) c.args.direction (c.in-Some.key.now, tt) (left c.loop-key.left) (left c.take_next.new.self) _ c.in-Some.ensures (sym c.contains.ensures ∙ c.if-contains.true) c.loop-key.invariant.row;
      same = c.loop-key.invariant.same;
      for_rows = c.loop-key.invariant.for_rows;
      for_row = let fewer = one_more_left c.args.direction (c.in-Some.key.now, tt) (left c.loop-key.left) (left c.take_next.new.self) c.in-Some.ensures in let all = c.loop-key.invariant.for_row in omega (arith, fewer, all);
    }

pub loop-key-preserved : goal.loop-key-preserved
loop-key-preserved g c =
    let pred = c.args.pred.now in
    let before = g.V.View.sight c.args.view.now in
    let here = g.V.View.sight c.loop-key.view in
    let after = g.V.View.sight c.match_at.new.view in
    let rows = rows_at before.database pred.table in
    let none : found_at pred rows c.in-Some.key.now ≡ None =
    sym (c.in_ok-row.ensures.found ∙ ap (λ s. matched pred (row_of (rows_at s.database pred.table) c.in-Some.key.now)) c.loop-key.invariant.same) ∙ c.in_default-2.is in
    record {
      row = first_later pred rows (g.K.KeySet.has c.args.passed.now) c.args.direction (c.in-Some.key.now, tt) (left c.loop-key.left) (left c.take_next.new.self) _ c.in-Some.ensures none c.loop-key.invariant.row;
      same = only_then before here after c.loop-key.invariant.same c.in_ok-row.ensures.passes_on.sight;
      for_rows = let one = c.in_ok-row.ensures.asked.for_rows in let all = c.loop-key.invariant.for_rows in omega (arith, one, all);
      for_row =
          let one = c.in_ok-row.ensures.asked.for_row in let fewer = one_more_left c.args.direction (c.in-Some.key.now, tt) (left c.loop-key.left) (left c.take_next.new.self) c.in-Some.ensures in let all = c.loop-key.invariant.for_row in omega (arith, one, fewer, all);
    }

pub returns-in-Some-2-clause-found : goal.returns-in-Some-2-clause-found
returns-in-Some-2-clause-found g c =
    let pred = c.args.pred.now in
    let before = g.V.View.sight c.args.view.now in
    let rows = rows_at before.database pred.table in
    let found : found_at pred rows c.in-Some.key.now ≡ Some c.in-Some-2.row =
    sym (c.in_ok-row.ensures.found ∙ ap (λ s. matched pred (row_of (rows_at s.database pred.table) c.in-Some.key.now)) c.loop-key.invariant.same) ∙ c.in-Some-2.is in
    ap (λ (item : Keyed). Some item) c.under.ensures
    ∙ (ap (λ key. Some (record { key = key; row = c.in-Some-2.row })) c.in_ok-key.ensures
    ∙ first_there pred rows (g.K.KeySet.has c.args.passed.now) c.args.direction (c.in-Some.key.now, tt) (left c.loop-key.left) (left c.take_next.new.self) c.in-Some-2.row _ c.in-Some.ensures (sym c.contains.ensures ∙ c.if-contains.false) found c.loop-key.invariant.row)

pub returns-in-Some-2-clause-asked : goal.returns-in-Some-2-clause-asked
returns-in-Some-2-clause-asked g c =
    let one = c.in_ok-row.ensures.asked in
    let fewer = one_more_left c.args.direction (c.in-Some.key.now, tt) (left c.loop-key.left) (left c.take_next.new.self) c.in-Some.ensures in
    record { for_rows = let now = one.for_rows in let all = c.loop-key.invariant.for_rows in omega (arith, now, all); for_row = let now = one.for_row in let all = c.loop-key.invariant.for_row in omega (arith, now, fewer, all) }

pub returns-in-Some-2-clause-passes_on : goal.returns-in-Some-2-clause-passes_on
returns-in-Some-2-clause-passes_on g c =
    let before = g.V.View.sight c.args.view.now in
    let after = g.V.View.sight c.match_at.new.view in
    passes_ok before after _ (only_then before (g.V.View.sight c.loop-key.view) after c.loop-key.invariant.same c.in_ok-row.ensures.passes_on.sight)

pub returns-clause-found : goal.returns-clause-found
returns-clause-found g c = none_first_left c.args.pred.now (rows_at (g.V.View.sight c.args.view.now).database c.args.pred.now.table) (g.K.KeySet.has c.args.passed.now) c.args.direction (left c.loop-key.left) _ c.in_default.ensures c.loop-key.invariant.row

pub returns-clause-passes_on : goal.returns-clause-passes_on
returns-clause-passes_on g c = passes_ok (g.V.View.sight c.args.view.now) (g.V.View.sight c.loop-key.view) None c.loop-key.invariant.same
