use Rattle.std.proofs.Common.{Some, ap, sym, ◌∙◌}
use Rattle.mv_names.specs.Named.{Text}
use Rattle.mv_names.proofs.Indexing.{popped_first, popped_later, popped_never}
use Rattle.mv_names.proofs.nested.Scope.pop.Goals as goal

pub invariant_of-self-then-place-len : goal.invariant_of-self-then-place-len
invariant_of-self-then-place-len g c =
    let name = c.as_slice-name.ensures.bytes ∙ c.name.ensures in
    let there = rw name at (sym c.get.ensures.value ∙ (sym c.copied.ensures ∙ (c.in-Some-copied.is ∙ ap Some (c.if-place-len.true ∙ c.len.ensures)))) in
    let gone = λ (n : Text). rw name at (c.swap_remove.ensures.updates.0 (record (c.as_slice-name.result) { now = n })) in
    popped_first g.T.Named.name_of c.pop.new.self c.in-Some.item c.self.inside.places.entries c.swap_remove.new.self.entries there gone (rw c.in-Some.ensures.items at c.self.invariant)

pub invariant_of-self-else-place-len : goal.invariant_of-self-else-place-len
invariant_of-self-else-place-len g c =
    let name = c.as_slice-name.ensures.bytes ∙ c.name.ensures in
    let there = rw name at (sym c.get.ensures.value ∙ (sym c.copied.ensures ∙ c.in-Some-copied.is)) in
    popped_later g.T.Named.name_of c.pop.new.self c.in-Some.item c.in-Some-copied.place c.self.inside.places.entries there (rw c.len.ensures at c.if-place-len.false) (rw c.in-Some.ensures.items at c.self.invariant)

pub invariant_of-self-in_default : goal.invariant_of-self-in_default
invariant_of-self-in_default g c =
    let name = c.as_slice-name.ensures.bytes ∙ c.name.ensures in
    let there = rw name at (sym c.get.ensures.value ∙ (sym c.copied.ensures ∙ c.in_default.is)) in
    popped_never g.T.Named.name_of c.pop.new.self c.in-Some.item c.self.inside.places.entries there (rw c.in-Some.ensures.items at c.self.invariant)
