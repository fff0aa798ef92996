use Rattle.std.proofs.Common.{◌≡◌, refl, sym, ap, ◌∙◌, subst, cond, Some, None}
use Rattle.std.specs.Option.{IsSome}
use Rattle.std.specs.Ordering.{is_eq}
use Rattle.mv_values.specs.Order.{key_order}
use Rattle.mv_table.specs.Entries.{item_of, with_item}
use Rattle.mv_table.proofs.Entries.{entries_looked_up, entries_updated, entries_rise}
use Rattle.mv_table.proofs.Storing.{value_set}
use Rattle.mv_table.proofs.key_map.KeyMap.replace.Goals as goal

pub returns-in_default-clause-none : goal.returns-in_default-clause-none
returns-in_default-clause-none g c =
    (refl, subst (λ es. item_of es c.args.key.now ≡ None) c.self.view_is (sym (entries_looked_up c.args.key.now c.self.inside.entries.entries) ∙ sym c.in_default.ensures.value))

pub returns-clause-items : goal.returns-clause-items
returns-clause-items g c =
    let there : item_of c.self.inside.entries.entries c.args.key.now ≡ Some c.in-Some.place.now = sym (entries_looked_up c.args.key.now c.self.inside.entries.entries) ∙ sym c.in-Some.ensures.value in
    subst (λ es. (c.get_mut.follows.lender c.replace.new.dest).entries ≡ with_item c.args.key.now (Some c.args.item) es) c.self.view_is
    ((c.get_mut.follows.holds c.replace.new.dest).0
    ∙ (value_set c.args.key.now c.replace.new.dest c.in-Some.place.now c.self.inside.entries.entries (entries_rise c.self.inside.entries.entries c.in-Some.ensures.ordered) there
    ∙ ap (λ x. with_item c.args.key.now (Some x) c.self.inside.entries.entries) c.replace.ensures.after))

pub returns-clause-was : goal.returns-clause-was
returns-clause-was g c =
    subst (λ es. item_of es c.args.key.now ≡ Some c.replace.result) c.self.view_is
    (sym (entries_looked_up c.args.key.now c.self.inside.entries.entries) ∙ (sym c.in-Some.ensures.value ∙ ap Some (sym c.replace.ensures.value)))

pub returns-clause-at : goal.returns-clause-at
returns-clause-at g c = λ other.
    let key = c.args.key.now in
    let old = c.self.inside.entries.entries in
    let new = c.get_mut.follows.lender c.replace.new.dest in
    let held = c.get_mut.follows.holds c.replace.new.dest in
    subst (λ es. item_of new.entries other ≡ cond (is_eq (key_order key other)) (Some c.args.item) (item_of es other)) c.self.view_is
    (entries_updated key other (Some c.replace.new.dest) old new.entries ((held.3 (subst IsSome c.in-Some.ensures.value refl)).0 other)
    ∙ ap (λ x. cond (is_eq (key_order key other)) (Some x) (item_of old other)) c.replace.ensures.after)
