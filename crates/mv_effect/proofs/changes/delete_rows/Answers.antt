use Rattle.std.proofs.Common.{◌∷◌, [], map, sym, ◌∙◌}
use Rattle.mv_values.specs.Patching.{applied}
use Rattle.mv_effect.specs.Seeing.{own_seen}
use Rattle.mv_values.specs.declared.patch.Patch.TheVariants as patch
use Rattle.mv_values.specs.declared.rows.Keyed.{Keyed}
use Rattle.mv_eval.specs.Rows.{is_some_row}
use Rattle.mv_recorded.specs.Asking.{delete_checks}
use Rattle.mv_recorded.specs.Doing.{write}
use Rattle.mv_effect.proofs.Checking.{checked_ends, checked_passes, no_sets, no_writes}
use Rattle.mv_effect.specs.Asking.{asked}
use Rattle.mv_effect.proofs.OnePred.{asks_alone}
use Rattle.mv_effect.proofs.changes.delete_rows.Goals as goal

pub returns-in-Some-clause-ok : goal.returns-in-Some-clause-ok
returns-in-Some-clause-ok g c =
    let ws = own_seen c.args.context.now c.args.log.now in
    let db = applied ws (g.V.View.sight c.args.view.now).database in
    let cs = delete_checks c.args.context.now.tables.now c.args.table c.args.rows.now in
    checked_ends c.args.log.now c.args.log.now c.check_deletion.new.log c.end.new.log (asked c.args.log.now ∷ []) cs db c.in-Some.fault (is_some_row c.args.rows.now) (map (λ (item : Keyed). write c.args.table item.key patch.Delete) c.args.rows.now) c.args.context.now.env.now (asks_alone c.args.log.now c.requires.one) c.in_ok-fault.ensures.asked
    (sym c.in-Some.is ∙ c.in_ok-fault.ensures.fault) c.in_ok-end.ensures.ok

pub push_deletion-requires-clause-writes : goal.push_deletion-requires-clause-writes
push_deletion-requires-clause-writes g c =
    let ws = own_seen c.args.context.now c.args.log.now in
    let db = applied ws (g.V.View.sight c.args.view.now).database in
    let cs = delete_checks c.args.context.now.tables.now c.args.table c.args.rows.now in
    no_writes c.args.log.now c.args.log.now c.check_deletion.new.log (asked c.args.log.now ∷ []) cs db (asks_alone c.args.log.now c.requires.one) c.in_ok-fault.ensures.asked

pub push_deletion-requires-clause-sets : goal.push_deletion-requires-clause-sets
push_deletion-requires-clause-sets g c =
    let ws = own_seen c.args.context.now c.args.log.now in
    let db = applied ws (g.V.View.sight c.args.view.now).database in
    let cs = delete_checks c.args.context.now.tables.now c.args.table c.args.rows.now in
    no_sets c.args.log.now c.args.log.now c.check_deletion.new.log (asked c.args.log.now ∷ []) cs db (asks_alone c.args.log.now c.requires.one) c.in_ok-fault.ensures.asked

pub returns-clause-ok : goal.returns-clause-ok
returns-clause-ok g c =
    let ws = own_seen c.args.context.now c.args.log.now in
    let db = applied ws (g.V.View.sight c.args.view.now).database in
    let cs = delete_checks c.args.context.now.tables.now c.args.table c.args.rows.now in
    checked_passes c.args.log.now c.args.log.now c.check_deletion.new.log c.push_deletion.new.log (asked c.args.log.now ∷ []) cs db (is_some_row c.args.rows.now) (map (λ (item : Keyed). write c.args.table item.key patch.Delete) c.args.rows.now) c.args.context.now.env.now (asks_alone c.args.log.now c.requires.one) c.in_ok-fault.ensures.asked
    (sym c.in_default.is ∙ c.in_ok-fault.ensures.fault) c.in_ok-push_deletion.ensures.ok
