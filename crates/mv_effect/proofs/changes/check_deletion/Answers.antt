use Rattle.std.proofs.Common.{◌≡◌, ◌++◌, List, OnOk, length, sym, ap, subst, ◌∙◌, rules, refl}
use Rattle.std.specs.Prelude.{IfOk}
use Rattle.mv_values.specs.Keys.{keys}
use Rattle.mv_values.specs.Patching.{applied}
use Rattle.mv_log.specs.Logged.{Logged}
use Rattle.mv_effect.specs.Seeing.{own_seen}
use Rattle.mv_recorded.specs.Asking.{Check, first_fault, preds_up_to, delete_checks}
use Rattle.mv_recorded.specs.Own.{Each}
use Rattle.mv_checks.specs.Checking.{MayAsk}
use Rattle.mv_checks.proofs.Referring.{delete_may, deletion_is, none_checked}
use Rattle.mv_effect.specs.Logging.{with_preds}
use Rattle.mv_effect.specs.Looking.{AskedFor}
use Rattle.mv_effect.proofs.Asked.{none_asked}
use Rattle.mv_effect.proofs.Checking.{none_added, none_fault}
use Rattle.mv_effect.proofs.changes.check_deletion.Goals as goal

pub run_checks-requires : goal.run_checks-requires
run_checks-requires g c =
    let is =
    deletion_is c.args.context.now.tables.now c.args.table c.args.rows.now c.in_ok-children.children c.as_slice-children.result.now c.in_ok-children.ensures c.as_slice-children.ensures c.in_ok-own.own c.as_slice-own.result.now c.in_ok-checks.checks c.as_slice-checks.result.now
    (c.in_ok-own.ensures ∙ ap keys c.as_slice.ensures.items) c.as_slice-own.ensures c.as_slice-checks.ensures c.in_ok-checks.ensures in λ k. (
      (refl, tt),
      (
        c.requires.stands,
        (subst (Each (MayAsk c.args.context.now.tables.now)) (sym is) (delete_may c.args.context.now.tables.now c.requires.stands.parents c.args.table c.args.rows.now), c.requires.begins),
      ),
    )

pub returns-clause-fault : goal.returns-clause-fault
returns-clause-fault g c =
    let ws = own_seen c.args.context.now c.args.log.now in
    let before = g.V.View.sight c.args.view.now in
    let db = applied ws before.database in
    let log : Logged = c.args.log.now in
    let is =
    deletion_is c.args.context.now.tables.now c.args.table c.args.rows.now c.in_ok-children.children c.as_slice-children.result.now c.in_ok-children.ensures c.as_slice-children.ensures c.in_ok-own.own c.as_slice-own.result.now c.in_ok-checks.checks c.as_slice-checks.result.now
    (c.in_ok-own.ensures ∙ ap keys c.as_slice.ensures.items) c.as_slice-own.ensures c.as_slice-checks.ensures c.in_ok-checks.ensures in
    subst (λ (cs : List Check). IfOk c.run_checks.result (λ o. o ≡ first_fault cs db)) is c.run_checks.ensures.fault

pub returns-clause-asked : goal.returns-clause-asked
returns-clause-asked g c =
    let ws = own_seen c.args.context.now c.args.log.now in
    let before = g.V.View.sight c.args.view.now in
    let db = applied ws before.database in
    let log : Logged = c.args.log.now in
    let is =
    deletion_is c.args.context.now.tables.now c.args.table c.args.rows.now c.in_ok-children.children c.as_slice-children.result.now c.in_ok-children.ensures c.as_slice-children.ensures c.in_ok-own.own c.as_slice-own.result.now c.in_ok-checks.checks c.as_slice-checks.result.now
    (c.in_ok-own.ensures ∙ ap keys c.as_slice.ensures.items) c.as_slice-own.ensures c.as_slice-checks.ensures c.in_ok-checks.ensures in
    subst (λ (cs : List Check). OnOk c.run_checks.result (c.run_checks.new.log ≡ with_preds log (log.effect.preds ++ preds_up_to cs db))) is c.run_checks.ensures.asked

pub returns-clause-looks : goal.returns-clause-looks
returns-clause-looks g c =
    let ws = own_seen c.args.context.now c.args.log.now in
    let before = g.V.View.sight c.args.view.now in
    let db = applied ws before.database in
    let log : Logged = c.args.log.now in
    let is =
    deletion_is c.args.context.now.tables.now c.args.table c.args.rows.now c.in_ok-children.children c.as_slice-children.result.now c.in_ok-children.ensures c.as_slice-children.ensures c.in_ok-own.own c.as_slice-own.result.now c.in_ok-checks.checks c.as_slice-checks.result.now
    (c.in_ok-own.ensures ∙ ap keys c.as_slice.ensures.items) c.as_slice-own.ensures c.as_slice-checks.ensures c.in_ok-checks.ensures in
    subst (λ (cs : List Check). AskedFor (preds_up_to cs db) ws before (g.V.View.sight c.run_checks.new.view)) is c.run_checks.ensures.looks

-- no column refers to the table

pub returns-then-is_empty-clause-fault : goal.returns-then-is_empty-clause-fault
returns-then-is_empty-clause-fault g c =
    let ws = own_seen c.args.context.now c.args.log.now in
    let before = g.V.View.sight c.args.view.now in
    let db = applied ws before.database in
    let log : Logged = c.args.log.now in
    let empty : length c.as_slice-children.result.now ≡ 0 = search rules in
    let none = none_checked c.args.context.now.tables.now c.args.table c.args.rows.now c.in_ok-children.children c.as_slice-children.result.now c.in_ok-children.ensures c.as_slice-children.ensures empty in
    none_fault (delete_checks c.args.context.now.tables.now c.args.table c.args.rows.now) db none

pub returns-then-is_empty-clause-asked : goal.returns-then-is_empty-clause-asked
returns-then-is_empty-clause-asked g c =
    let ws = own_seen c.args.context.now c.args.log.now in
    let before = g.V.View.sight c.args.view.now in
    let db = applied ws before.database in
    let log : Logged = c.args.log.now in
    let empty : length c.as_slice-children.result.now ≡ 0 = search rules in
    let none = none_checked c.args.context.now.tables.now c.args.table c.args.rows.now c.in_ok-children.children c.as_slice-children.result.now c.in_ok-children.ensures c.as_slice-children.ensures empty in
    none_added (delete_checks c.args.context.now.tables.now c.args.table c.args.rows.now) db log none

pub returns-then-is_empty-clause-looks : goal.returns-then-is_empty-clause-looks
returns-then-is_empty-clause-looks g c =
    let ws = own_seen c.args.context.now c.args.log.now in
    let before = g.V.View.sight c.args.view.now in
    none_asked (preds_up_to (delete_checks c.args.context.now.tables.now c.args.table c.args.rows.now) (applied ws before.database)) ws before

pub returns-in_err-children-clause-looks : goal.returns-in_err-children-clause-looks
returns-in_err-children-clause-looks g c =
    let ws = own_seen c.args.context.now c.args.log.now in
    let before = g.V.View.sight c.args.view.now in
    none_asked (preds_up_to (delete_checks c.args.context.now.tables.now c.args.table c.args.rows.now) (applied ws before.database)) ws before

pub returns-in_err-own-clause-looks : goal.returns-in_err-own-clause-looks
returns-in_err-own-clause-looks g c =
    let ws = own_seen c.args.context.now c.args.log.now in
    let before = g.V.View.sight c.args.view.now in
    none_asked (preds_up_to (delete_checks c.args.context.now.tables.now c.args.table c.args.rows.now) (applied ws before.database)) ws before

pub returns-in_err-checks-clause-looks : goal.returns-in_err-checks-clause-looks
returns-in_err-checks-clause-looks g c =
    let ws = own_seen c.args.context.now c.args.log.now in
    let before = g.V.View.sight c.args.view.now in
    none_asked (preds_up_to (delete_checks c.args.context.now.tables.now c.args.table c.args.rows.now) (applied ws before.database)) ws before
