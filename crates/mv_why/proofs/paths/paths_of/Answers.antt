use Rattle.std.proofs.Common.{◌++◌, ◌∷◌, [], List, sym, ap, ◌∙◌}
use Rattle.mv_history.specs.Kept.{Path}
use Rattle.mv_why.proofs.paths.paths_of.Goals as goal

pub loop-number-preserved : goal.loop-number-preserved
loop-number-preserved c = c.in_ok-push.ensures.ok ∙ (ap (λ (l : List Path). l ++ c.in_ok-path.path ∷ []) (sym c.as_slice.ensures) ∙ c.in_ok-path.ensures)
