use Rattle.std.proofs.Common.{subst, sym, ◌∙◌}
use Rattle.mv_table.specs.Spans.{CoversAdmitted}
use Rattle.mv_undo.proofs.undo.Undo.sought_keys.Goals as goal

pub places_in-places-requires-clause-indexed : goal.places_in-places-requires-clause-indexed
places_in-places-requires-clause-indexed c =
    let all = c.items-items.ensures ∙ sym c.self.view_is in
    rw (all, c.order.ensures) c.self.invariant.indexed

pub new-requires-clause-linked : goal.new-requires-clause-linked
new-requires-clause-linked c =
    let all = c.items-items.ensures ∙ sym c.self.view_is in
    rw (all, c.links-links.ensures) c.self.invariant.linked

pub new-requires-clause-numbers : goal.new-requires-clause-numbers
new-requires-clause-numbers c =
    let all = c.items-items.ensures ∙ sym c.self.view_is in
    rw all c.self.invariant.numbers

pub new-requires-clause-admitted : goal.new-requires-clause-admitted
new-requires-clause-admitted c = λ key so none.
    let covers = subst (λ tests. CoversAdmitted tests c.in_ok-span.span) c.tests.ensures c.in_ok-span.ensures.covers in
    (rw c.table.ensures at c.places_in-places.ensures.each) key (covers key so) none
