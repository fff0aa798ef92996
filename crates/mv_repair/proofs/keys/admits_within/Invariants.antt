use Rattle.std.proofs.Common.{◌≡◌}
use Rattle.std.specs.List.{filter, list_any}
use Rattle.mv_values.specs.Preds.{admits}
use Rattle.mv_table.specs.Spans.{is_within}
use Rattle.mv_repair.proofs.keys.admits_within.Given as goal

abbrev pub invariant-loop-key : goal.invariant-loop-key
invariant-loop-key l = list_any (λ e. admits l.pred e.0) l.key-iterator ≡ list_any (λ e. admits l.pred e.0) (filter (λ e. is_within l.span e.0) l.keys)
