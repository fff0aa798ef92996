use Rattle.std.proofs.Common.{◌≡◌, [], ◌∷◌, ◌++◌, List, Some, None, OnOk, map, true, sym, ap, subst, ◌∙◌}
use Rattle.std.specs.Prelude.{IfOk}
use Rattle.mv_table.specs.Entries.{seen}
use Rattle.mv_recorded.specs.Own.{Each}
use Rattle.mv_recorded.specs.Asking.{Check, first_fault, preds_up_to}
use Rattle.mv_checks.specs.Checking.{meant, MayAsk}
use Rattle.mv_checks.proofs.Referring.{update_may}
use Rattle.mv_recorder.proofs.changes.check_update.Goals as goal

pub run_checks-requires-clause-may_ask : goal.run_checks-requires-clause-may_ask
run_checks-requires-clause-may_ask c =
    let is = ap (map (meant [])) c.as_slice.ensures ∙ c.in_ok-checks.ensures in
    subst (Each (MayAsk c.args.scene.now.infos.now)) (sym is) (update_may c.args.scene.now.infos.now c.requires.tables.parents c.args.update.now.table c.args.update.now.items.now c.args.scene.now.env.now (map seen c.args.rows.now))

pub returns-clause-fault : goal.returns-clause-fault
returns-clause-fault c =
    let is = ap (map (meant [])) c.as_slice.ensures ∙ c.in_ok-checks.ensures in
    subst (λ (cs : List Check). IfOk c.run_checks.result (λ o. o ≡ first_fault cs c.args.scene.now.tables.now)) is c.run_checks.ensures.fault

pub returns-clause-preds : goal.returns-clause-preds
returns-clause-preds c =
    let is = ap (map (meant [])) c.as_slice.ensures ∙ c.in_ok-checks.ensures in
    subst (λ (cs : List Check). OnOk c.run_checks.result (c.run_checks.new.preds ≡ c.args.preds.now ++ preds_up_to cs c.args.scene.now.tables.now)) is c.run_checks.ensures.preds
