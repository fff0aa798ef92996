use Rattle.mv_store.specs.Indexed.{MayNote, HasNoted}
use Rattle.mv_store.proofs.Putting.{first_have}
use Rattle.mv_store.proofs.entries.note_items.Given as goal

abbrev pub invariant-loop-item : goal.invariant-loop-item
invariant-loop-item l = record {
  some : MayNote l.table l.key (first_have l.items l.item-index) l.fn.index l.index;
  all : HasNoted l.table l.key (first_have l.items l.item-index) l.index;
}
