use Rattle.std.proofs.Common.{rules, ap, ◌≡◌, ◌∙◌, ◌≤◌, length, take, sym, subst}
use Rattle.std.specs.Prelude.{nat_lt}
use Rattle.std.specs.List.{filter}
use Rattle.std.proofs.lemmas.Fn.{always_returns_same, filter_same}
use Rattle.mv_undo.specs.declared.place.Place.{Place}
use Rattle.mv_undo.specs.Owned.{owned_by, places_before}
use Rattle.mv_undo.specs.Indexed.{Indexed, IsIndexOf}
use Rattle.mv_undo.proofs.Adding.{index_less}
use Rattle.mv_undo.proofs.Owning.{dropped}
use Rattle.mv_undo.proofs.Placing.{places_rise}
use Rattle.mv_undo.proofs.own_index.OwnIndex.drop_from.Goals as goal

pub of-items-requires : goal.of-items-requires
of-items-requires c =
    let ix = subst (λ i. IsIndexOf i c.args.writes.now) (sym c.self.view_is) c.requires in
    rw c.as_slice-places.ensures.value ix.within

pub go_back-requires-clause-linked : goal.go_back-requires-clause-linked
go_back-requires-clause-linked c =
    let ix = subst (λ i. IsIndexOf i c.args.writes.now) (sym c.self.view_is) c.requires in
    let all = c.of-items.ensures ∙ ap (λ ps. owned_by ps c.args.writes.now) c.as_slice-places.ensures.value in
    rw (all, c.as_slice-links.ensures.value) ix.linked

pub go_back-requires-clause-numbers : goal.go_back-requires-clause-numbers
go_back-requires-clause-numbers c =
    let ix = subst (λ i. IsIndexOf i c.args.writes.now) (sym c.self.view_is) c.requires in
    let all = c.of-items.ensures ∙ ap (λ ps. owned_by ps c.args.writes.now) c.as_slice-places.ensures.value in
    rw all ix.numbers

pub go_back-requires-clause-last : goal.go_back-requires-clause-last
go_back-requires-clause-last c =
    let ix = subst (λ i. IsIndexOf i c.args.writes.now) (sym c.self.view_is) c.requires in
    let all = c.of-items.ensures ∙ ap (λ ps. owned_by ps c.args.writes.now) c.as_slice-places.ensures.value in
    rw all ix.indexed.are.last

pub returns-clause-places : goal.returns-clause-places
returns-clause-places c =
    let ix = subst (λ i. IsIndexOf i c.args.writes.now) (sym c.self.view_is) c.requires in
    rw c.truncate.ensures.items
    (dropped c.args.number c.self.inside.places.items c.partition_point-len.result (places_rise c.args.writes.now c.self.inside.places.items ix.numbers)
    (rw c.as_slice-places.ensures.value at c.partition_point-len.ensures.bound)
    (rw c.as_slice-places.ensures.value at (c.partition_point-len.ensures.partitioned (λ (o : Place). nat_lt o.number c.args.number) (always_returns_same _ _ _ (λ a r f h. search rules))))
    ∙ ap (λ (i : Indexed). places_before c.args.number i.places) c.self.view_is)

pub returns-clause-index : goal.returns-clause-index
returns-clause-index c =
    let i : Indexed = record { places = c.self.inside.places.items; composed = c.self.inside.composed.items; links = c.self.inside.links.items; order = c.self.inside.order.items } in
    let ws = c.args.writes.now in
    let ix : IsIndexOf i ws = subst (λ i. IsIndexOf i ws) (sym c.self.view_is) c.requires in
    let all : c.of-items.result ≡ owned_by i.places ws = c.of-items.ensures ∙ ap (λ ps. owned_by ps ws) c.as_slice-places.ensures.value in
    let len = c.partition_point-len.result in
    let bound : len ≤ length i.places = rw c.as_slice-places.ensures.value at c.partition_point-len.ensures.bound in
    let front : take len i.places ≡ places_before c.args.number i.places =
    dropped c.args.number i.places len (places_rise ws i.places ix.numbers) bound
    (rw c.as_slice-places.ensures.value at (c.partition_point-len.ensures.partitioned (λ (o : Place). nat_lt o.number c.args.number) (always_returns_same _ _ _ (λ a r f h. search rules)))) in
    let back = c.go_back.new.order.items in
    let kept : c.retain.new.self.items ≡ filter (λ p. nat_lt p len) back = filter_same _ (λ p. nat_lt p len) _ (λ x b f r. search rules) _ _ c.retain.ensures.filtered in
    rw (c.truncate.ensures.items, c.truncate-2.ensures.items, c.truncate-3.ensures.items, kept) (index_less i ws c.args.number len back ix bound front c.go_back.ensures.len (rw all at c.go_back.ensures.back))
