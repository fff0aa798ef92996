use Rattle.std.proofs.Common.{◌≡◌, [], drop}
use Rattle.mv_values.specs.Tables.{rows_at}
use Rattle.mv_record.specs.Writes.{writes_on}
use Rattle.mv_undo.specs.Owning.{earlier, is_fixed}
use Rattle.mv_effect.proofs.Asked.{WasAsked, with_rows_under}
use Rattle.mv_effect.proofs.rows.rows_under.Given as goal

abbrev pub invariant-loop-key : goal.invariant-loop-key
invariant-loop-key g l = record {
  own : with_rows_under (rows_at (g.V.View.sight l.fn.view).database l.table) (λ k. is_fixed (writes_on l.table k (earlier l.number l.undo))) (drop l.key-index l.keys) l.own
      ≡ with_rows_under (rows_at (g.V.View.sight l.fn.view).database l.table) (λ k. is_fixed (writes_on l.table k (earlier l.number l.undo))) l.keys [];
  asked : WasAsked 0 l.key-index (g.V.View.sight l.fn.view) (g.V.View.sight l.view);
}
