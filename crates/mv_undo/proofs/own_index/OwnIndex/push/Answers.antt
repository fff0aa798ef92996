use Rattle.std.proofs.Common.{◌≡◌, ◌≤◌, ◌++◌, ◌∷◌, [], All, List, Option, length, ap, subst, sym, ◌∙◌}
use Rattle.mv_values.specs.declared.patch.Patch.{Patch}
use Rattle.mv_values.specs.declared.patch.Write.{Write}
use Rattle.mv_undo.specs.declared.links.Link.{Link}
use Rattle.mv_undo.specs.declared.place.Place.{Place}
use Rattle.mv_undo.specs.Owned.{Owned, owned_by, owned_in}
use Rattle.mv_undo.specs.Indexed.{Indexed, IsIndexOf}
use Rattle.mv_undo.specs.Indexing.{renewed}
use Rattle.mv_undo.proofs.Growing.{found_last}
use Rattle.mv_undo.proofs.Adding.{IsReady, index_more}
use Rattle.mv_undo.proofs.own_index.OwnIndex.push.Goals as goal

pub of-items-requires : goal.of-items-requires
of-items-requires c =
    let ix = subst (λ i. IsIndexOf i c.args.writes.now) (sym c.self.view_is) c.requires.index in
    rw c.as_slice-places.ensures.value ix.within

pub count_up_to-under-requires : goal.count_up_to-under-requires
count_up_to-under-requires c =
    let ix = subst (λ i. IsIndexOf i c.args.writes.now) (sym c.self.view_is) c.requires.index in
    let all = c.of-items.ensures ∙ ap (λ ps. owned_by ps c.args.writes.now) c.as_slice-places.ensures.value in
    rw (all, c.as_slice-order.ensures.value) ix.indexed.are

pub found_at-before-requires-clause-indexed : goal.found_at-before-requires-clause-indexed
found_at-before-requires-clause-indexed c =
    let ix = subst (λ i. IsIndexOf i c.args.writes.now) (sym c.self.view_is) c.requires.index in
    let all = c.of-items.ensures ∙ ap (λ ps. owned_by ps c.args.writes.now) c.as_slice-places.ensures.value in
    rw (all, c.as_slice-order.ensures.value) ix.indexed

pub patch_with-requires-clause-composed : goal.patch_with-requires-clause-composed
patch_with-requires-clause-composed c =
    let ix = subst (λ i. IsIndexOf i c.args.writes.now) (sym c.self.view_is) c.requires.index in
    let all = c.of-items.ensures ∙ ap (λ ps. owned_by ps c.args.writes.now) c.as_slice-places.ensures.value in
    rw (all, c.as_slice-composed.ensures.value) ix.composed

pub patch_with-requires-clause-last : goal.patch_with-requires-clause-last
patch_with-requires-clause-last c =
    let ix = subst (λ i. IsIndexOf i c.args.writes.now) (sym c.self.view_is) c.requires.index in
    let all = c.of-items.ensures ∙ ap (λ ps. owned_by ps c.args.writes.now) c.as_slice-places.ensures.value in
    found_last c.of-items.result c.as_slice-order.result.now c.count_up_to-under.result c.write_at-write.result.now.table c.write_at-write.result.now.key c.found_at-before.result (rw (all, c.as_slice-order.ensures.value) ix.indexed)
    c.count_up_to-under.ensures.within c.found_at-before.ensures

pub link_to-link-requires-clause-linked : goal.link_to-link-requires-clause-linked
link_to-link-requires-clause-linked c =
    let ix = subst (λ i. IsIndexOf i c.args.writes.now) (sym c.self.view_is) c.requires.index in
    let all = c.of-items.ensures ∙ ap (λ ps. owned_by ps c.args.writes.now) c.as_slice-places.ensures.value in
    rw (all, c.as_slice-links.ensures.value) ix.linked

pub returns-clause-places : goal.returns-clause-places
returns-clause-places c =
    let p : Place = record { number = c.args.number; at = c.args.at } in
    (c.in_ok-push-3.ensures.items ∙ ap (λ (l : List Place). l ++ p ∷ []) c.in_ok-reserve.ensures.items) ∙ ap (λ (i : Indexed). i.places ++ p ∷ []) c.self.view_is

pub returns-clause-index : goal.returns-clause-index
returns-clause-index c =
    let ws = c.args.writes.now in
    let i : Indexed = record { places = c.self.inside.places.items; composed = c.self.inside.composed.items; links = c.self.inside.links.items; order = c.self.inside.order.items } in
    let ix : IsIndexOf i ws = subst (λ i. IsIndexOf i ws) (sym c.self.view_is) c.requires.index in
    let p : Place = record { number = c.args.number; at = c.args.at } in
    let w : Write = c.write_at-write.result.now in
    let same : w ≡ (owned_in ws p).write = c.write_at-write.ensures in
    let all : c.of-items.result ≡ owned_by i.places ws = c.of-items.ensures ∙ ap (λ ps. owned_by ps ws) c.as_slice-places.ensures.value in
    let ready : IsReady c.of-items.result c.as_slice-order.result.now w c.count_up_to-under.result c.found_at-before.result c.in_ok-patch.patch c.link_to-link.result = record {
      within = c.count_up_to-under.ensures.within;
      cut = c.count_up_to-under.ensures.up_to;
      last = c.found_at-before.ensures;
      does = c.in_ok-patch.ensures;
      before = c.link_to-link.ensures.before;
      far = c.link_to-link.ensures.far;
      none = c.link_to-link.ensures.none;
    } in
    let so : IsReady (owned_by i.places ws) i.order (owned_in ws p).write c.count_up_to-under.result c.found_at-before.result c.in_ok-patch.patch c.link_to-link.result =
    subst (λ (v : Write). IsReady (owned_by i.places ws) i.order v c.count_up_to-under.result c.found_at-before.result c.in_ok-patch.patch c.link_to-link.result) same
    (subst (λ os. IsReady (owned_by i.places ws) os w c.count_up_to-under.result c.found_at-before.result c.in_ok-patch.patch c.link_to-link.result) c.as_slice-order.ensures.value
    (subst (λ (S : List Owned). IsReady S c.as_slice-order.result.now w c.count_up_to-under.result c.found_at-before.result c.in_ok-patch.patch c.link_to-link.result) all ready)) in
    let new : c.push-3.new.self.items ≡ i.places ++ p ∷ [] = c.in_ok-push-3.ensures.items ∙ ap (λ (l : List Place). l ++ p ∷ []) c.in_ok-reserve.ensures.items in
    let more : c.push.new.self.items ≡ i.composed ++ c.in_ok-patch.patch ∷ [] = c.in_ok-push.ensures.items ∙ ap (λ (l : List (Option Patch)). l ++ c.in_ok-patch.patch ∷ []) c.in_ok-reserve-2.ensures.items in
    let linked : c.push-2.new.self.items ≡ i.links ++ c.link_to-link.result ∷ [] = c.in_ok-push-2.ensures.items ∙ ap (λ (l : List Link). l ++ c.link_to-link.result ∷ []) c.in_ok-reserve-3.ensures.items in
    let last : c.len-last.result ≡ length i.places = c.len-last.ensures ∙ c.self.inside.places.ok.0 in
    let order : c.renew.new.order.items ≡ renewed i.order c.count_up_to-under.result c.found_at-before.result (length i.places) =
    c.in_ok-renew.ensures.ok ∙ ap (renewed i.order c.count_up_to-under.result c.found_at-before.result) last in
    rw (new, more, linked, order)
    (index_more i ws p c.count_up_to-under.result c.found_at-before.result c.in_ok-patch.patch c.link_to-link.result ix c.requires.within
    (subst (λ (j : Indexed). All (λ (q : Place). q.number ≤ c.args.number) j.places) (sym c.self.view_is) c.requires.last) so)
