use Rattle.std.proofs.Common.{◌≡◌, ◌++◌, map, drop}
use Rattle.mv_recorded.specs.Asking.{first_fault, preds_up_to}
use Rattle.mv_checks.specs.Checking.{meant}
use Rattle.mv_recorder.proofs.checks.run_checks.Given as goal

-- what is left to check gives the same end, and the same predicates behind those that were added
abbrev pub invariant-loop-check : goal.invariant-loop-check
invariant-loop-check l = record {
  fault : first_fault (map (meant l.own) (drop l.check-index l.checks)) l.scene.tables.now ≡ first_fault (map (meant l.own) l.checks) l.scene.tables.now;
  preds : l.preds ++ preds_up_to (map (meant l.own) (drop l.check-index l.checks)) l.scene.tables.now ≡ l.fn.preds ++ preds_up_to (map (meant l.own) l.checks) l.scene.tables.now;
}
