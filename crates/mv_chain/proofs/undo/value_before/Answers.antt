use Rattle.std.proofs.Common.{◌≡◌, ◌∙◌, rules, drop, ◌+◌, [], Some, None}
use Rattle.std.specs.Option.{option_copied}
use Rattle.mv_values.specs.declared.patch.Patch.TheVariants.{Insert, Set, Delete}
use Rattle.mv_chain.specs.Undoing.{item_on}
use Rattle.mv_chain.proofs.Values.{HasSought, sought_none, sought_at, sought_all, sought_row, sought_set, sought_gone, sought_past, sought_newest, sought_nothing}
use Rattle.mv_chain.proofs.undo.value_before.Goals as goal

pub loop-undo-init : goal.loop-undo-init
loop-undo-init c = sought_none c.args.column c.args.undos.now (option_copied c.args.now)

pub returns-in-Insert : goal.returns-in-Insert
returns-in-Insert c row is within =
    let us = c.args.undos.now in
    let i = c.loop-undo.undo-index in
    let now = option_copied c.args.now in
    c.column_of.ensures ∙ sought_row c.args.column us (drop (i + 1) us) c.undo-item.result.commit c.in-Insert.row now (sought_at c.args.column us i c.undo-item.result (Insert c.in-Insert.row) now c.loop-undo.invariant (search rules) c.undo-item.is c.in-Insert.is) row is within

pub returns-in-Some : goal.returns-in-Some
returns-in-Some c row is within =
    let us = c.args.undos.now in
    let i = c.loop-undo.undo-index in
    let now = option_copied c.args.now in
    let item : item_on c.args.column c.in-Set.items ≡ Some c.in-Some.value.now = search rules in
    sought_set c.args.column us (drop (i + 1) us) c.undo-item.result.commit c.in-Set.items now c.in-Some.value.now (sought_at c.args.column us i c.undo-item.result (Set c.in-Set.items) now c.loop-undo.invariant (search rules) c.undo-item.is c.in-Set.is) item row is within

pub returns-in-Delete : goal.returns-in-Delete
returns-in-Delete c row is within =
    let us = c.args.undos.now in
    let i = c.loop-undo.undo-index in
    let now = option_copied c.args.now in
    sought_gone c.args.column us (drop (i + 1) us) c.undo-item.result.commit now (sought_at c.args.column us i c.undo-item.result Delete now c.loop-undo.invariant (search rules) c.undo-item.is c.in-Delete.is) row is within

pub loop-undo-preserved : goal.loop-undo-preserved
loop-undo-preserved c =
    let us = c.args.undos.now in
    let i = c.loop-undo.undo-index in
    let now = option_copied c.args.now in
    let none : item_on c.args.column c.in-Set.items ≡ None = search rules in
    sought_past c.args.column us (drop (i + 1) us) c.undo-item.result.commit c.in-Set.items now (sought_at c.args.column us i c.undo-item.result (Set c.in-Set.items) now c.loop-undo.invariant (search rules) c.undo-item.is c.in-Set.is) none

pub returns-in-Some-now : goal.returns-in-Some-now
returns-in-Some-now c row is within =
    let us = c.args.undos.now in
    let whole : HasSought c.args.column us [] (option_copied c.args.now) = sought_all c.args.column us c.loop-undo.undo-index (option_copied c.args.now) c.loop-undo.invariant (search rules) in
    c.column_of-in-Some-now.ensures ∙ sought_newest c.args.column us c.in-Some-now.row.now (rw c.in-Some-now.is at whole) row (rw c.in-Some-now.is at is) within

pub returns-in-None : goal.returns-in-None
returns-in-None c row is within =
    let us = c.args.undos.now in
    let whole : HasSought c.args.column us [] (option_copied c.args.now) = sought_all c.args.column us c.loop-undo.undo-index (option_copied c.args.now) c.loop-undo.invariant (search rules) in
    sought_nothing c.args.column us (rw c.in-None.is at whole) row (rw c.in-None.is at is) within
