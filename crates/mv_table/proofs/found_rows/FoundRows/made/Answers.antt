use Rattle.std.proofs.Common.{◌++◌, All, sym, ap, subst, ◌∙◌}
use Rattle.mv_values.specs.declared.rows.Keyed.{Keyed}
use Rattle.mv_values.specs.Keys.{IsRising, IsBelow}
use Rattle.mv_table.proofs.Storing.{front_below}
use Rattle.mv_table.proofs.found_rows.FoundRows.made.Goals as goal

pub push-requires : goal.push-requires
push-requires c =
    let inv = c.loop-item.invariant in
    let rising = subst IsRising (sym (ap (λ l. c.loop-item.found ++ l) (sym c.in-Some.ensures.steps.0) ∙ inv.rows)) inv.rising in
    subst (λ (x : Keyed). All (IsBelow x.key) c.loop-item.found) (sym c.made.ensures) (front_below c.loop-item.found c.next.new.self.rest.items c.in-Some.item rising)
