use Rattle.std.proofs.Common.{take}
use Rattle.std.specs.List.{list_any}
use Rattle.mv_chain.specs.Having.{item_has}
use Rattle.mv_store.specs.Indexed.{Forgets}
use Rattle.mv_store.proofs.entries.forget_items.Given as goal

abbrev pub invariant-loop-item : goal.invariant-loop-item
invariant-loop-item g l = Forgets l.table l.key (λ c v. list_any (λ x. item_has c v x) (take l.item-index l.items)) (g.K.Valued.versions l.kept) l.fn.index l.index
