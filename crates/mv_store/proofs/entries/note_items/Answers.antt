use Rattle.std.proofs.Common.{refl}
use Rattle.std.specs.List.{list_any}
use Rattle.mv_chain.specs.Having.{item_has}
use Rattle.mv_store.proofs.Putting.{first_have, key_noted, key_there, item_noted, item_there, item_missed, items_noted, items_there}
use Rattle.mv_store.proofs.entries.note_items.Goals as goal

pub loop-item-init : goal.loop-item-init
loop-item-init c = record {
  some = key_noted c.args.table c.args.key.now (first_have c.args.items.now 0) c.args.index.now c.note_key.new.self c.in_ok-note_key.ensures.notes;
  all = key_there c.args.table c.args.key.now c.note_key.new.self (first_have c.args.items.now 0) (λ n v. refl) c.in_ok-note_key.ensures.len;
}

pub loop-item-preserved : goal.loop-item-preserved
loop-item-preserved c = record {
  some =
      item_noted c.args.table c.args.key.now c.args.items.now c.loop-item.item-index c.item-item.result c.args.index.now c.loop-item.index c.note.new.self c.loop-item-test.true c.item-item.is c.in_ok-note.ensures.ok c.loop-item.invariant.some;
  all =
      item_there c.args.table c.args.key.now c.args.items.now c.loop-item.item-index c.item-item.result c.args.index.now c.loop-item.index c.note.new.self c.loop-item-test.true c.item-item.is c.in_ok-note.ensures.ok c.loop-item.invariant.some c.loop-item.invariant.all;
}

pub returns-clause-some : goal.returns-clause-some
returns-clause-some c = items_noted c.args.table c.args.key.now c.args.items.now c.loop-item.item-index c.args.index.now c.loop-item.index c.loop-item-test.false c.loop-item.invariant.some

pub returns-clause-all : goal.returns-clause-all
returns-clause-all c = items_there c.args.table c.args.key.now c.args.items.now c.loop-item.item-index c.loop-item.index c.loop-item-test.false c.loop-item.invariant.all

pub returns-in_err-note_key-clause-some : goal.returns-in_err-note_key-clause-some
returns-in_err-note_key-clause-some c = key_noted c.args.table c.args.key.now (λ n v. list_any (item_has n v) c.args.items.now) c.args.index.now c.note_key.new.self c.in_err-note_key.ensures.notes

pub returns-in_err-note-clause-some : goal.returns-in_err-note-clause-some
returns-in_err-note-clause-some c =
    item_missed c.args.table c.args.key.now c.args.items.now c.loop-item.item-index c.item-item.result c.args.index.now c.loop-item.index c.note.new.self c.loop-item-test.true c.item-item.is c.in_err-note.ensures.err c.loop-item.invariant.some
