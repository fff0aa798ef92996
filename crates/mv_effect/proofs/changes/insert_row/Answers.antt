use Rattle.std.proofs.Common.{◌∷◌, [], true, sym, ◌∙◌, arith}
use Rattle.mv_values.specs.Patching.{applied}
use Rattle.mv_effect.specs.Seeing.{own_seen}
use Rattle.mv_values.specs.declared.patch.Patch.TheVariants as patch
use Rattle.mv_recorded.specs.Doing.{write}
use Rattle.mv_checks.specs.Checking.{row_checks}
use Rattle.mv_effect.proofs.Checking.{asks_nothing, checked_ends, checked_passes, no_sets, no_writes}
use Rattle.mv_effect.proofs.changes.insert_row.Goals as goal

pub returns-in-Some-clause-ok : goal.returns-in-Some-clause-ok
returns-in-Some-clause-ok g c =
    let ws = own_seen c.args.context.now c.args.log.now in
    let db = applied ws (g.V.View.sight c.args.view.now).database in
    let cs = row_checks c.args.context.now.tables.now c.args.table c.args.item in
    checked_ends c.args.log.now c.args.log.now c.check_row.new.log c.end.new.log [] cs db c.in-Some.fault true (write c.args.table c.args.item.key (patch.Insert c.args.item.row) ∷ []) c.args.context.now.env.now (asks_nothing c.args.log.now c.requires.blank) c.in_ok-fault.ensures.asked
    (sym c.in-Some.is ∙ c.in_ok-fault.ensures.fault) c.in_ok-end.ensures.ok

pub push_insertion-requires-clause-writes : goal.push_insertion-requires-clause-writes
push_insertion-requires-clause-writes g c =
    let ws = own_seen c.args.context.now c.args.log.now in
    let db = applied ws (g.V.View.sight c.args.view.now).database in
    let cs = row_checks c.args.context.now.tables.now c.args.table c.args.item in
    no_writes c.args.log.now c.args.log.now c.check_row.new.log [] cs db (asks_nothing c.args.log.now c.requires.blank) c.in_ok-fault.ensures.asked

pub push_insertion-requires-clause-sets : goal.push_insertion-requires-clause-sets
push_insertion-requires-clause-sets g c =
    let ws = own_seen c.args.context.now c.args.log.now in
    let db = applied ws (g.V.View.sight c.args.view.now).database in
    let cs = row_checks c.args.context.now.tables.now c.args.table c.args.item in
    no_sets c.args.log.now c.args.log.now c.check_row.new.log [] cs db (asks_nothing c.args.log.now c.requires.blank) c.in_ok-fault.ensures.asked

pub returns-clause-ok : goal.returns-clause-ok
returns-clause-ok g c =
    let ws = own_seen c.args.context.now c.args.log.now in
    let db = applied ws (g.V.View.sight c.args.view.now).database in
    let cs = row_checks c.args.context.now.tables.now c.args.table c.args.item in
    checked_passes c.args.log.now c.args.log.now c.check_row.new.log c.push_insertion.new.log [] cs db true (write c.args.table c.args.item.key (patch.Insert c.args.item.row) ∷ []) c.args.context.now.env.now (asks_nothing c.args.log.now c.requires.blank) c.in_ok-fault.ensures.asked
    (sym c.in_default.is ∙ c.in_ok-fault.ensures.fault) c.in_ok-push_insertion.ensures.ok

pub push_insertion-requires-clause-table : goal.push_insertion-requires-clause-table
push_insertion-requires-clause-table g c = omega (arith, c.requires.table, c.requires.stands.few)
