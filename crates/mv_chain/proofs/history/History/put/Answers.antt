use Rattle.std.proofs.Common.{◌≡◌, ◌∙◌, ap, sym}
use Rattle.std.specs.Prelude.{slice_set}
use Rattle.std.proofs.lemmas.Result.{on_ok_weaker}
use Rattle.mv_chain.specs.Versions.{with_own, with_patch}
use Rattle.mv_chain.proofs.Versions.{shown}
use Rattle.mv_chain.proofs.Places.{absent, added, at_spot, put_in}
use Rattle.mv_chain.proofs.history.History.put.Goals as goal

pub returns-in_ok-push-in-None-clause-ok : goal.returns-in_ok-push-in-None-clause-ok
returns-in_ok-push-in-None-clause-ok c =
    let ps = c.self.inside.own.items in
    let last : c.push.new.self.items ≡ with_own c.args.call c.args.patch ps = c.in_ok-push-in-None.ensures.items ∙ sym (added c.args.call c.args.patch ps (absent c.args.call ps (rw c.as_slice.ensures.value at (sym c.place_of.ensures.value ∙ c.in-None.is)))) in
    ap (λ us. shown us c.self.inside.row c.push.new.self.items) c.reserve.ensures.items
    ∙ ap (λ own. shown c.self.inside.undos.items c.self.inside.row own) last
    ∙ ap (with_patch c.args.call c.args.patch) c.self.view_is

pub returns-in-Some-clause-ok : goal.returns-in-Some-clause-ok
returns-in-Some-clause-ok c =
    let ps = c.self.inside.own.items in
    let spot = at_spot c.args.call c.in-Some.at ps (rw c.as_slice.ensures.value at (sym c.place_of.ensures.value ∙ c.in-Some.is)) in
    on_ok_weaker c.compose.result (λ composed.
    ap (λ us. shown us c.self.inside.row (slice_set ps c.in-Some.at (record { call = c.index_mut.result.now.call; patch = c.compose.new.first }))) c.reserve.ensures.items
    ∙ ap (λ own. shown c.self.inside.undos.items c.self.inside.row own) (put_in c.args.call c.args.patch ps c.in-Some.at c.index_mut.result.now c.compose.new.first spot c.index_mut.ensures.value composed)
    ∙ ap (with_patch c.args.call c.args.patch) c.self.view_is) c.compose.ensures.ok
