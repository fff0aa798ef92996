use Rattle.std.proofs.Common.{◌≡◌, ◌++◌, ◌∷◌, [], false, refl, sym, ap, subst, ◌∙◌}
use Rattle.std.specs.Prelude.{slice_get, Some}
use Rattle.mv_journal.specs.declared.event.Event.TheVariants.{S, A, M, C, X, R, G}
use Rattle.mv_trace.specs.Bars.{AreOpen, is_begin, ends}
use Rattle.mv_trace.proofs.Opening.{stays, kept, ended, same}
use Rattle.mv_trace.proofs.bars.add_event.Goals as goal

pub returns-in_ok-bar-in-A : goal.returns-in_ok-bar-in-A
returns-in_ok-bar-in-A c events count open_bars =
    let bars = c.args.bars.now in
    let call = c.in-A.call in
    let none : is_begin c.args.event.now ≡ false = ap is_begin c.in-A.is in
    let there : slice_get bars call ≡ Some c.in_ok-bar-in-A.bar = subst (λ bars. slice_get bars call ≡ Some c.in_ok-bar-in-A.bar) c.as_slice.ensures c.in_ok-bar-in-A.ensures.bar in
    let after = kept events c.args.event.now bars call c.in_ok-bar-in-A.bar c.repaired.result none there c.repaired.ensures.from c.repaired.ensures.to open_bars in
    subst (AreOpen (events ++ c.args.event.now ∷ [])) (sym c.set.ensures) after

pub returns-in_ok-bar-in-M : goal.returns-in_ok-bar-in-M
returns-in_ok-bar-in-M c events count open_bars =
    let bars = c.args.bars.now in
    let call = c.in-M.call in
    let none : is_begin c.args.event.now ≡ false = ap is_begin c.in-M.is in
    let there : slice_get bars call ≡ Some c.in_ok-bar-in-M.bar = subst (λ bars. slice_get bars call ≡ Some c.in_ok-bar-in-M.bar) c.as_slice-in-M.ensures c.in_ok-bar-in-M.ensures.bar in
    let after = kept events c.args.event.now bars call c.in_ok-bar-in-M.bar c.moved.result none there c.moved.ensures.from c.moved.ensures.to open_bars in
    subst (AreOpen (events ++ c.args.event.now ∷ [])) (sym c.set-in-M.ensures) after

pub returns-in_ok-bar-in-C : goal.returns-in_ok-bar-in-C
returns-in_ok-bar-in-C c events count open_bars =
    let bars = c.args.bars.now in
    let call = c.in-C.call in
    let none : is_begin c.args.event.now ≡ false = ap is_begin c.in-C.is in
    let there : slice_get bars call ≡ Some c.in_ok-bar-in-C.bar = subst (λ bars. slice_get bars call ≡ Some c.in_ok-bar-in-C.bar) c.as_slice-in-C.ensures c.in_ok-bar-in-C.ensures.bar in
    let is = ap (ends call) c.in-C.is ∙ same call in
    let after = ended events c.args.event.now bars call c.in_ok-bar-in-C.bar c.ended.result none there c.ended.ensures.from (c.ended.ensures.to ∙ sym count) is open_bars in
    subst (AreOpen (events ++ c.args.event.now ∷ [])) (sym c.set-in-C.ensures) after

pub returns-in_ok-live_bar-in-X : goal.returns-in_ok-live_bar-in-X
returns-in_ok-live_bar-in-X c events count open_bars =
    let bars = c.args.bars.now in
    let call = c.in-X.call in
    let old = c.in_ok-live_bar-in-X.field-0 in
    let none : is_begin c.args.event.now ≡ false = ap is_begin c.in-X.is in
    let there : slice_get bars call ≡ Some old = subst (λ bars. slice_get bars call ≡ Some old) c.as_slice-in-X.ensures c.in_ok-live_bar-in-X.ensures.bar in
    let is = ap (ends call) c.in-X.is ∙ same call in
    let from = c.ended-in-X.ensures.from ∙ c.repaired-bar.ensures.from in
    let after = ended events c.args.event.now bars call old c.ended-in-X.result none there from (c.ended-in-X.ensures.to ∙ sym count) is open_bars in
    subst (AreOpen (events ++ c.args.event.now ∷ [])) (sym c.set-in-X.ensures) after

pub returns-in_ok-bar-in-R : goal.returns-in_ok-bar-in-R
returns-in_ok-bar-in-R c events count open_bars =
    let bars = c.args.bars.now in
    let call = c.in-R.call in
    let none : is_begin c.args.event.now ≡ false = ap is_begin c.in-R.is in
    let there : slice_get bars call ≡ Some c.in_ok-bar-in-R.bar = subst (λ bars. slice_get bars call ≡ Some c.in_ok-bar-in-R.bar) c.as_slice-in-R.ensures c.in_ok-bar-in-R.ensures.bar in
    let is = ap (ends call) c.in-R.is ∙ same call in
    let after = ended events c.args.event.now bars call c.in_ok-bar-in-R.bar c.ended-in-R.result none there c.ended-in-R.ensures.from (c.ended-in-R.ensures.to ∙ sym count) is open_bars in
    subst (AreOpen (events ++ c.args.event.now ∷ [])) (sym c.set-in-R.ensures) after

pub returns-in-S : goal.returns-in-S
returns-in-S c events count open_bars = stays events c.args.event.now c.args.bars.now (ap is_begin c.in-S.is) open_bars

pub returns-in-G : goal.returns-in-G
returns-in-G c events count open_bars = stays events c.args.event.now c.args.bars.now (ap is_begin c.in-G.is) open_bars
