use Rattle.std.proofs.Common.{◌≡◌, ◌++◌, List, slice_index_or, sym, ap, subst, ◌∙◌}
use Rattle.mv_values.specs.declared.rows.Keyed.{Keyed}
use Rattle.mv_values.specs.Keys.{IsRising}
use Rattle.mv_values.specs.Patching.{applied, found_by}
use Rattle.mv_values.specs.Preds.{matched}
use Rattle.mv_record.specs.Writes.{writes_on, patched_by}
use Rattle.mv_record.proofs.Patching.{rising_placed}
use Rattle.mv_undo.specs.Owning.{earlier}
use Rattle.mv_undo.specs.Overlaying.{IsSeen}
use Rattle.mv_undo.proofs.Laying.{laid_step, laid_all}
use Rattle.mv_undo.proofs.Looking.{if_ok}
use Rattle.mv_undo.proofs.Merging.{next_above}
use Rattle.mv_undo.proofs.undo.Undo.overlay.Goals as goal

pub loop-key-preserved : goal.loop-key-preserved
loop-key-preserved c =
    let pred = c.args.pred.now in
    let ws = earlier c.args.number c.args.self.now in
    let keys = c.args.keys.now in
    let i = c.loop-key.key-index in
    let key = c.key-item.result in
    let now = c.loop-key.merge.done ++ c.loop-key.merge.ahead.items in
    let later = c.put.new.self.done ++ c.put.new.self.ahead.items in
    let row = c.matched.result in
    let new = c.matched.ensures ∙ ap (matched pred) ((rw c.table.ensures at c.in_ok-row.ensures) ∙ ap (patched_by (writes_on pred.table key ws)) c.find_row.ensures) in
    record {
      rows = laid_step pred ws c.args.own keys i key row now later c.loop-key-test.true c.key-item.is new c.in_ok-put.ensures.rows ∙ c.loop-key.invariant.rows;
      rising = subst IsRising (sym c.in_ok-put.ensures.rows) (rising_placed key row now c.loop-key.invariant.rising);
      below = λ k d low lt. c.in_ok-put.ensures.below (slice_index_or keys k d) (next_above keys i k key d c.requires.rising c.key-item.is low lt);
    }

pub returns : goal.returns
returns c =
    let pred = c.args.pred.now in
    let ws = earlier c.args.number c.args.self.now in
    let now = c.loop-key.merge.done ++ c.loop-key.merge.ahead.items in
    if_ok c.into_rows.result (λ (rows : List Keyed). rows ≡ now) (λ (rows : List Keyed). (db : List (List Keyed)) → IsSeen pred ws c.args.rows c.args.own db → rows ≡ found_by pred (applied ws db)) (λ rows is db seen.
    is ∙ laid_all pred ws c.args.rows c.args.own c.args.keys.now c.loop-key.key-index now c.loop-key.invariant.rows c.loop-key-test.false c.requires db seen) c.into_rows.ensures
