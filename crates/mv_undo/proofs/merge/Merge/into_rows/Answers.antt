use Rattle.std.proofs.Common.{◌++◌, sym, ap, subst, ◌∙◌}
use Rattle.mv_values.specs.Keys.{IsRising}
use Rattle.mv_undo.proofs.Merging.{below_next}
use Rattle.mv_undo.proofs.merge.Merge.into_rows.Goals as goal

pub push-requires : goal.push-requires
push-requires c =
    below_next c.loop-item.rows c.in-Some.item c.next.new.self.rest.items
    (subst IsRising (sym c.loop-item.invariant ∙ ap (λ l. c.loop-item.rows ++ l) c.in-Some.ensures.steps.0) c.requires)
