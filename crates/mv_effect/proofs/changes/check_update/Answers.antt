use Rattle.std.proofs.Common.{◌≡◌, [], ◌++◌, List, OnOk, map, sym, ap, subst, ◌∙◌, refl}
use Rattle.std.specs.Prelude.{IfOk}
use Rattle.mv_values.specs.Patching.{applied}
use Rattle.mv_log.specs.Logged.{Logged}
use Rattle.mv_effect.specs.Seeing.{own_seen}
use Rattle.mv_recorded.specs.Asking.{Check, first_fault, preds_up_to, update_checks}
use Rattle.mv_recorded.specs.Own.{Each}
use Rattle.mv_checks.specs.Checking.{meant, MayAsk}
use Rattle.mv_effect.specs.Logging.{with_preds}
use Rattle.mv_effect.specs.Looking.{AskedFor}
use Rattle.mv_effect.proofs.Asked.{none_asked}
use Rattle.mv_checks.proofs.Referring.{update_may}
use Rattle.mv_effect.proofs.changes.check_update.Goals as goal

pub run_checks-requires : goal.run_checks-requires
run_checks-requires g c = λ k. (
  (refl, tt),
  (
    c.requires.stands,
    (subst (Each (MayAsk c.args.context.now.tables.now)) (sym (ap (map (meant [])) c.as_slice-2.ensures ∙ (c.in_ok-checks.ensures ∙ ap (update_checks c.args.context.now.tables.now c.args.update.now.table c.args.update.now.items.now c.args.context.now.env.now) c.as_slice.ensures.items))) (update_may c.args.context.now.tables.now c.requires.stands.parents c.args.update.now.table c.args.update.now.items.now c.args.context.now.env.now c.args.rows.now), c.requires.begins),
  ),
)

pub returns-clause-fault : goal.returns-clause-fault
returns-clause-fault g c =
    let ws = own_seen c.args.context.now c.args.log.now in
    let before = g.V.View.sight c.args.view.now in
    let db = applied ws before.database in
    let log : Logged = c.args.log.now in
    subst (λ (cs : List Check). IfOk c.run_checks.result (λ o. o ≡ first_fault cs db)) (ap (map (meant [])) c.as_slice-2.ensures ∙ (c.in_ok-checks.ensures ∙ ap (update_checks c.args.context.now.tables.now c.args.update.now.table c.args.update.now.items.now c.args.context.now.env.now) c.as_slice.ensures.items)) c.run_checks.ensures.fault

pub returns-clause-asked : goal.returns-clause-asked
returns-clause-asked g c =
    let ws = own_seen c.args.context.now c.args.log.now in
    let before = g.V.View.sight c.args.view.now in
    let db = applied ws before.database in
    let log : Logged = c.args.log.now in
    subst (λ (cs : List Check). OnOk c.run_checks.result (c.run_checks.new.log ≡ with_preds log (log.effect.preds ++ preds_up_to cs db))) (ap (map (meant [])) c.as_slice-2.ensures ∙ (c.in_ok-checks.ensures ∙ ap (update_checks c.args.context.now.tables.now c.args.update.now.table c.args.update.now.items.now c.args.context.now.env.now) c.as_slice.ensures.items)) c.run_checks.ensures.asked

pub returns-clause-looks : goal.returns-clause-looks
returns-clause-looks g c =
    let ws = own_seen c.args.context.now c.args.log.now in
    let before = g.V.View.sight c.args.view.now in
    let db = applied ws before.database in
    let log : Logged = c.args.log.now in
    subst (λ (cs : List Check). AskedFor (preds_up_to cs db) ws before (g.V.View.sight c.run_checks.new.view)) (ap (map (meant [])) c.as_slice-2.ensures ∙ (c.in_ok-checks.ensures ∙ ap (update_checks c.args.context.now.tables.now c.args.update.now.table c.args.update.now.items.now c.args.context.now.env.now) c.as_slice.ensures.items)) c.run_checks.ensures.looks

pub returns-in_err-checks-clause-looks : goal.returns-in_err-checks-clause-looks
returns-in_err-checks-clause-looks g c =
    let ws = own_seen c.args.context.now c.args.log.now in
    let before = g.V.View.sight c.args.view.now in
    none_asked (preds_up_to (update_checks c.args.context.now.tables.now c.args.update.now.table c.args.update.now.items.now c.args.context.now.env.now c.args.rows.now) (applied ws before.database)) ws before
