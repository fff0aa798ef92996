use Rattle.std.proofs.Common.{◌≡◌, ◌+◌, ◌++◌, List, [], ◌∷◌, length, refl, sym, ap, subst, ◌∙◌, arith}
use Rattle.mv_values.specs.declared.rows.Keyed.{Keyed}
use Rattle.mv_values.specs.Patching.{found_by, row_of}
use Rattle.mv_values.specs.Preds.{matches, matched}
use Rattle.mv_values.specs.Tables.{rows_at}
use Rattle.mv_table.specs.declared.scan.Direction.TheVariants.{Forward}
use Rattle.mv_table.specs.Spans.{CoversAdmitted}
use Rattle.mv_record.proofs.Patching.{rising_filter}
use Rattle.std.proofs.lemmas.Result.{err_from_is_err_and}
use Rattle.mv_index.specs.Forms.{several, left}
use Rattle.mv_index.proofs.Asked.{only_then, passes_then, passes_ok, passes_err, passes_memory}
use Rattle.mv_index.proofs.Finding.{found_under, found_at, all_found, keys_within, within_rise, fewer_within, one_more_left, rows_more, rows_below}
use Rattle.mv_index.proofs.look.rows_among.Goals as goal

pub loop-key-init : goal.loop-key-init
loop-key-init g c =
    let pred = c.args.pred.now in
    let rows = rows_at (g.V.View.sight c.args.view.now).database pred.table in
    let span = c.in_ok-span.span in
    let covers = subst (λ tests. CoversAdmitted tests span) c.tests.ensures c.in_ok-span.ensures.covers in
    let are = c.within-left.ensures.items in
    record {
      rows = rw (c.new-rows.ensures, are) (all_found pred rows _ (within_rise span (several c.args.keys) c.within-left.ensures.rising) (c.requires.rising pred.table) (keys_within pred rows (several c.args.keys) span covers c.requires.admitted c.requires.all));
      rising = rising_filter (λ item. matches pred item.row) rows (c.requires.rising pred.table);
      same = refl;
      for_rows = omega arith;
      for_row = let few = fewer_within span (several c.args.keys) in let here = ap length are in omega (arith, few, here);
    }

pub add_row-requires : goal.add_row-requires
add_row-requires g c =
    let pred = c.args.pred.now in
    let before = g.V.View.sight c.args.view.now in
    let rows = rows_at before.database pred.table in
    let found : c.in_ok-row.row ≡ found_at pred rows c.in-Some.key.now =
    c.in_ok-row.ensures.found ∙ ap (λ s. matched pred (row_of (rows_at s.database pred.table) c.in-Some.key.now)) c.loop-key.invariant.same in
    rows_below pred rows c.loop-key.rows (c.in-Some.key.now, tt) (left c.take_next.new.self) c.in_ok-row.row (found_by pred before.database) found
    (sym (ap (λ es. c.loop-key.rows ++ found_under pred rows es) c.in-Some.ensures) ∙ c.loop-key.invariant.rows) c.loop-key.invariant.rising

pub loop-key-preserved : goal.loop-key-preserved
loop-key-preserved g c =
    let pred = c.args.pred.now in
    let before = g.V.View.sight c.args.view.now in
    let here = g.V.View.sight c.loop-key.view in
    let after = g.V.View.sight c.match_at.new.view in
    let rows = rows_at before.database pred.table in
    let found : c.in_ok-row.row ≡ found_at pred rows c.in-Some.key.now =
    c.in_ok-row.ensures.found ∙ ap (λ s. matched pred (row_of (rows_at s.database pred.table) c.in-Some.key.now)) c.loop-key.invariant.same in
    record {
      rows =
          ap (λ l. l ++ found_under pred rows (left c.take_next.new.self)) c.in_ok-add_row.ensures
          ∙ rows_more pred rows c.loop-key.rows (c.in-Some.key.now, tt) (left c.take_next.new.self) c.in_ok-row.row (found_by pred before.database) found (sym (ap (λ es. c.loop-key.rows ++ found_under pred rows es) c.in-Some.ensures) ∙ c.loop-key.invariant.rows);
      rising = c.loop-key.invariant.rising;
      same = only_then before here after c.loop-key.invariant.same c.in_ok-row.ensures.passes_on.sight;
      for_rows = let one = c.in_ok-row.ensures.asked.for_rows in let all = c.loop-key.invariant.for_rows in omega (arith, one, all);
      for_row =
          let one = c.in_ok-row.ensures.asked.for_row in let all = c.loop-key.invariant.for_row in let fewer = one_more_left Forward (c.in-Some.key.now, tt) (left c.loop-key.left) (left c.take_next.new.self) c.in-Some.ensures in omega (arith, one, all, fewer);
    }

pub returns-clause-found : goal.returns-clause-found
returns-clause-found g c =
    sym (ap (λ es. c.loop-key.rows ++ found_under c.args.pred.now (rows_at (g.V.View.sight c.args.view.now).database c.args.pred.now.table) es) c.in_default.ensures ∙ none_more c.loop-key.rows) ∙ c.loop-key.invariant.rows
  where
    none_more : (l : List Keyed) → l ++ [] ≡ l
    none_more [] = refl
    none_more (x ∷ xs) = ap (λ r. x ∷ r) (none_more xs)

pub returns-clause-asked : goal.returns-clause-asked
returns-clause-asked g c = record { for_rows = let all = c.loop-key.invariant.for_rows in omega (arith, all); for_row = let all = c.loop-key.invariant.for_row in omega (arith, all) }

pub returns-clause-passes_on : goal.returns-clause-passes_on
returns-clause-passes_on g c = passes_ok (g.V.View.sight c.args.view.now) (g.V.View.sight c.loop-key.view) c.loop-key.rows c.loop-key.invariant.same

pub returns-in_err-span-clause-passes_on : goal.returns-in_err-span-clause-passes_on
returns-in_err-span-clause-passes_on g c =
    let p = err_from_is_err_and c.from_residual.result c.from_residual.ensures.1 in
    rw (p.1, p.2) (passes_memory (g.V.View.sight c.args.view.now) (g.V.View.sight c.args.view.now) refl)

pub returns-in_err-row-clause-asked : goal.returns-in_err-row-clause-asked
returns-in_err-row-clause-asked g c =
    let one = c.in_err-row.ensures.asked in
    record {
      for_rows = let now = one.for_rows in let all = c.loop-key.invariant.for_rows in omega (arith, now, all);
      for_row = let now = one.for_row in let all = c.loop-key.invariant.for_row in let fewer = one_more_left Forward (c.in-Some.key.now, tt) (left c.loop-key.left) (left c.take_next.new.self) c.in-Some.ensures in omega (arith, now, all, fewer);
    }

pub returns-in_err-row-clause-passes_on : goal.returns-in_err-row-clause-passes_on
returns-in_err-row-clause-passes_on g c =
    let p = err_from_is_err_and c.from_residual-in_err-row.result c.from_residual-in_err-row.ensures.1 in
    rw (p.1, p.2) (passes_then (g.V.View.sight c.args.view.now) (g.V.View.sight c.loop-key.view) (g.V.View.sight c.match_at.new.view) _ c.loop-key.invariant.same (passes_err _ _ _ c.in_err-row.ensures.passes_on))

pub returns-in_err-add_row-clause-asked : goal.returns-in_err-add_row-clause-asked
returns-in_err-add_row-clause-asked g c =
    let one = c.in_ok-row.ensures.asked in
    record {
      for_rows = let now = one.for_rows in let all = c.loop-key.invariant.for_rows in omega (arith, now, all);
      for_row = let now = one.for_row in let all = c.loop-key.invariant.for_row in let fewer = one_more_left Forward (c.in-Some.key.now, tt) (left c.loop-key.left) (left c.take_next.new.self) c.in-Some.ensures in omega (arith, now, all, fewer);
    }

pub returns-in_err-add_row-clause-passes_on : goal.returns-in_err-add_row-clause-passes_on
returns-in_err-add_row-clause-passes_on g c =
    let p = err_from_is_err_and c.from_residual-in_err-add_row.result c.from_residual-in_err-add_row.ensures.1 in
    let before = g.V.View.sight c.args.view.now in
    let after = g.V.View.sight c.match_at.new.view in
    rw (p.1, p.2) (passes_memory before after (only_then before (g.V.View.sight c.loop-key.view) after c.loop-key.invariant.same c.in_ok-row.ensures.passes_on.sight))
