use Rattle.std.proofs.Common.{◌≡◌, drop}
use Rattle.std.specs.List.{list_any}
use Rattle.mv_history.specs.Hits.{touches_predicate}
use Rattle.mv_why.proofs.touch.touches.Given as goal

abbrev pub invariant-loop-at : goal.invariant-loop-at
invariant-loop-at l = list_any (touches_predicate l.write) (drop l.at l.preds) ≡ list_any (touches_predicate l.write) l.preds
