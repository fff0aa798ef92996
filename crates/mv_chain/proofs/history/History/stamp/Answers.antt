use Rattle.std.proofs.Common.{◌≡◌, ◌∙◌, ◌≤◌, ◌+◌, ◌∷◌, [], ap, sym, subst, arith, length, length-append, Some, None, refl}
use Rattle.std.specs.Prelude.{OnSome, Option}
use Rattle.mv_values.specs.declared.patch.Patch.{Patch}
use Rattle.mv_chain.specs.declared.undo.Undo.{Undo}
use Rattle.mv_chain.specs.Versions.{Versions, IsAboveAll, own_of, without, stamped}
use Rattle.mv_chain.proofs.Versions.{shown, stamp_stays, stamp_is, rises_push}
use Rattle.mv_chain.proofs.Places.{IsSpot, absent, none_there, at_spot, out_of, own_is, fewer}
use Rattle.mv_chain.proofs.history.History.stamp.Goals as goal

pub returns-in_default : goal.returns-in_default
returns-in_default c =
    let ps = c.self.inside.own.items in
    let none : own_of c.args.call ps ≡ None = none_there c.args.call ps (absent c.args.call ps (rw c.as_slice.ensures.value at (sym c.place_of.ensures.value ∙ c.in_default.is))) in
    stamp_stays c.args.call c.args.n c.args.self.now (subst (λ v. own_of c.args.call v.own ≡ None) c.self.view_is none)

-- the call's patch is at the place
spot : (c : goal.After-forget) → IsSpot c.args.call c.self.inside.own.items c.in-Some.at
spot c = at_spot c.args.call c.in-Some.at c.self.inside.own.items (rw c.as_slice.ensures.value at (sym c.place_of.ensures.value ∙ c.in-Some.is))

-- the patches of the other calls are left
left : (c : goal.After-forget) → c.forget.new.own.items ≡ without c.args.call c.self.inside.own.items
left c = c.forget.ensures ∙ out_of c.args.call c.replace-patch.new.dest c.self.inside.own.items c.in-Some.at c.index_mut.result.now (spot c) c.index_mut.ensures.value

-- the call's patch
own : (c : goal.After-forget) → own_of c.args.call c.self.inside.own.items ≡ Some c.replace-patch.result
own c =
    own_is c.args.call c.self.inside.own.items c.in-Some.at c.index_mut.result.now (spot c) c.index_mut.ensures.value
    ∙ ap (λ p. Some p) (sym c.replace-patch.ensures.value)

on_some : (found : Option Patch) (patch : Patch) (P : Type 0) → found ≡ Some patch → OnSome found P → P
on_some None patch P e h = cc
on_some (Some p) patch P e h = h

pub invariant_of-self : goal.invariant_of-self
invariant_of-self c =
    let us = c.self.inside.undos.items in
    let entry : Undo = record { commit = c.args.n; patch = c.do_patch-done.result.undo } in
    let few : length (without c.args.call c.self.inside.own.items) + 1 ≤ length c.self.inside.own.items = fewer c.args.call c.self.inside.own.items c.in-Some.at (spot c) in
    let before : Versions = shown us c.self.inside.row c.self.inside.own.items in
    let given : OnSome (own_of c.args.call before.own) (IsAboveAll c.args.n before) = subst (λ v. OnSome (own_of c.args.call v.own) (IsAboveAll c.args.n v)) (sym c.self.view_is) c.requires in
    let next : IsAboveAll c.args.n before = on_some (own_of c.args.call before.own) c.replace-patch.result (IsAboveAll c.args.n before) (own c) given in
    rw (c.push_within.ensures.items, left c)
    (rises_push us entry c.self.inside.row c.self.invariant.0 next, omega (arith, few, length-append us (entry ∷ []), c.self.invariant.1, c.push_within.ensures.room))

pub returns : goal.returns
returns c =
    let us = c.self.inside.undos.items in
    let entry : Undo = record { commit = c.args.n; patch = c.do_patch-done.result.undo } in
    let ps = c.self.inside.own.items in
    ap (λ all. shown all c.do_patch-done.result.row c.forget.new.own.items) c.push_within.ensures.items
    ∙ stamp_is c.args.call c.args.n us c.self.inside.row c.do_patch-done.result.row ps c.forget.new.own.items c.replace-patch.result entry (own c) (rw c.take.ensures.value at c.do_patch-done.ensures.row) (rw c.take.ensures.value at c.do_patch-done.ensures.back) refl (left c)
    ∙ ap (stamped c.args.call c.args.n) c.self.view_is
