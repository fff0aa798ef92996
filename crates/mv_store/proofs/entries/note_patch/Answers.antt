use Rattle.std.proofs.Common.{false, refl, subst}
use Rattle.std.specs.List.{list_any}
use Rattle.std.proofs.lemmas.Result.{on_ok_weaker}
use Rattle.mv_chain.specs.Having.{patch_has, item_has}
use Rattle.mv_store.specs.Indexed.{MayNote, HasNoted}
use Rattle.mv_store.proofs.Putting.{row_noted, row_there, key_noted, key_there}
use Rattle.mv_store.proofs.entries.note_patch.Goals as goal

pub returns-in-Insert-clause-some : goal.returns-in-Insert-clause-some
returns-in-Insert-clause-some c =
    rw c.in-Insert.is (row_noted c.args.table c.args.key.now c.in-Insert.row c.args.index.now c.add.new.self c.add.ensures.keeps c.add.ensures.only)

pub returns-in-Insert-clause-all : goal.returns-in-Insert-clause-all
returns-in-Insert-clause-all c = on_ok_weaker c.add.result (λ has. rw c.in-Insert.is (row_there c.args.table c.args.key.now c.in-Insert.row c.add.new.self has)) c.add.ensures.has

pub returns-in-Set-clause-some : goal.returns-in-Set-clause-some
returns-in-Set-clause-some c = rw c.in-Set.is (subst (λ items. MayNote c.args.table c.args.key.now (λ n v. list_any (item_has n v) items) c.args.index.now c.note_items.new.index) c.as_slice.ensures c.note_items.ensures.some)

pub returns-in-Set-clause-all : goal.returns-in-Set-clause-all
returns-in-Set-clause-all c =
    on_ok_weaker c.note_items.result (λ has. rw c.in-Set.is (subst (λ items. HasNoted c.args.table c.args.key.now (λ n v. list_any (item_has n v) items) c.note_items.new.index) c.as_slice.ensures has)) c.note_items.ensures.all

pub returns-in-Delete-clause-some : goal.returns-in-Delete-clause-some
returns-in-Delete-clause-some c = key_noted c.args.table c.args.key.now (λ n v. patch_has n v c.args.patch.now) c.args.index.now c.note_key.new.self c.note_key.ensures.notes

pub returns-in-Delete-clause-all : goal.returns-in-Delete-clause-all
returns-in-Delete-clause-all c =
    on_ok_weaker c.note_key.result (λ known. rw c.in-Delete.is (key_there c.args.table c.args.key.now c.note_key.new.self (λ n v. false) (λ n v. refl) known)) c.note_key.ensures.len
