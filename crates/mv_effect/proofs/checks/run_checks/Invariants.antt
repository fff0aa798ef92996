use Rattle.std.proofs.Common.{map, drop}
use Rattle.mv_values.specs.Patching.{applied}
use Rattle.mv_effect.specs.Seeing.{own_seen}
use Rattle.mv_checks.specs.Checking.{meant}
use Rattle.mv_effect.proofs.Checking.{HasPassed}
use Rattle.mv_effect.proofs.checks.run_checks.Given as goal

abbrev pub invariant-loop-check : goal.invariant-loop-check
invariant-loop-check g l =
    HasPassed (map (meant l.own) l.checks) (map (meant l.own) (drop l.check-index l.checks)) (applied (own_seen l.context l.fn.log) (g.V.View.sight l.fn.view).database) (own_seen l.context l.fn.log)
    l.fn.log l.log (g.V.View.sight l.fn.view) (g.V.View.sight l.view)
