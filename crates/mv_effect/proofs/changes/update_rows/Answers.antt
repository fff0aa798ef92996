use Rattle.std.proofs.Common.{◌∷◌, [], sym, ◌∙◌}
use Rattle.mv_values.specs.Patching.{applied}
use Rattle.mv_effect.specs.Seeing.{own_seen}
use Rattle.mv_eval.specs.Rows.{is_some_row}
use Rattle.mv_recorded.specs.Asking.{on, first_fault, update_checks}
use Rattle.mv_recorded.specs.Effects.{changes, new_of}
use Rattle.mv_recorded.proofs.Checked.{update_checked}
use Rattle.mv_checks.proofs.Running.{follows_on}
use Rattle.mv_effect.proofs.Checking.{checked_ends, checked_passes, no_sets, no_writes}
use Rattle.mv_effect.specs.Asking.{asked}
use Rattle.mv_effect.proofs.OnePred.{asks_alone}
use Rattle.mv_effect.proofs.changes.update_rows.Goals as goal

pub returns-in-Some-clause-ok : goal.returns-in-Some-clause-ok
returns-in-Some-clause-ok g c =
    let ws = own_seen c.args.context.now c.args.log.now in
    let db = applied ws (g.V.View.sight c.args.view.now).database in
    let cs = update_checks c.args.context.now.tables.now c.args.update.now.table c.args.update.now.items.now c.args.context.now.env.now c.args.rows.now in
    checked_ends c.args.log.now c.args.log.now c.check_update.new.log c.end.new.log (asked c.args.log.now ∷ []) cs db c.in-Some.fault (is_some_row c.args.rows.now) (on (changes c.args.update.now.table c.args.update.now.items.now (new_of c.args.context.now.tables.now c.args.update.now.table c.args.context.now.env.now c.args.update.now.items.now) c.args.rows.now) (λ ws. ws)) c.args.context.now.env.now (asks_alone c.args.log.now c.requires.one) c.in_ok-fault.ensures.asked
    (sym c.in-Some.is ∙ c.in_ok-fault.ensures.fault) c.in_ok-end.ensures.ok

pub push_update-requires-clause-writes : goal.push_update-requires-clause-writes
push_update-requires-clause-writes g c =
    let ws = own_seen c.args.context.now c.args.log.now in
    let db = applied ws (g.V.View.sight c.args.view.now).database in
    let cs = update_checks c.args.context.now.tables.now c.args.update.now.table c.args.update.now.items.now c.args.context.now.env.now c.args.rows.now in
    no_writes c.args.log.now c.args.log.now c.check_update.new.log (asked c.args.log.now ∷ []) cs db (asks_alone c.args.log.now c.requires.one) c.in_ok-fault.ensures.asked

pub push_update-requires-clause-sets : goal.push_update-requires-clause-sets
push_update-requires-clause-sets g c =
    let ws = own_seen c.args.context.now c.args.log.now in
    let db = applied ws (g.V.View.sight c.args.view.now).database in
    let cs = update_checks c.args.context.now.tables.now c.args.update.now.table c.args.update.now.items.now c.args.context.now.env.now c.args.rows.now in
    no_sets c.args.log.now c.args.log.now c.check_update.new.log (asked c.args.log.now ∷ []) cs db (asks_alone c.args.log.now c.requires.one) c.in_ok-fault.ensures.asked

pub returns-clause-ok : goal.returns-clause-ok
returns-clause-ok g c =
    let ws = own_seen c.args.context.now c.args.log.now in
    let db = applied ws (g.V.View.sight c.args.view.now).database in
    let cs = update_checks c.args.context.now.tables.now c.args.update.now.table c.args.update.now.items.now c.args.context.now.env.now c.args.rows.now in
    checked_passes c.args.log.now c.args.log.now c.check_update.new.log c.push_update.new.log (asked c.args.log.now ∷ []) cs db (is_some_row c.args.rows.now) (on (changes c.args.update.now.table c.args.update.now.items.now (new_of c.args.context.now.tables.now c.args.update.now.table c.args.context.now.env.now c.args.update.now.items.now) c.args.rows.now) (λ ws. ws)) c.args.context.now.env.now (asks_alone c.args.log.now c.requires.one) c.in_ok-fault.ensures.asked
    (sym c.in_default.is ∙ c.in_ok-fault.ensures.fault) c.in_ok-push_update.ensures.ok

pub push_update-requires-clause-goes : goal.push_update-requires-clause-goes
push_update-requires-clause-goes g c =
    let ws = own_seen c.args.context.now c.args.log.now in
    let db = applied ws (g.V.View.sight c.args.view.now).database in
    let cs = update_checks c.args.context.now.tables.now c.args.update.now.table c.args.update.now.items.now c.args.context.now.env.now c.args.rows.now in
    follows_on (first_fault cs db) _ (changes c.args.update.now.table c.args.update.now.items.now (new_of c.args.context.now.tables.now c.args.update.now.table c.args.context.now.env.now c.args.update.now.items.now) c.args.rows.now) (update_checked c.args.context.now.tables.now c.args.update.now.table db c.args.context.now.env.now c.args.update.now.items.now c.args.rows.now c.requires.stands.behind) (sym c.in_default.is ∙ c.in_ok-fault.ensures.fault)
