use Rattle.std.proofs.Common.{take}
use Rattle.std.specs.List.{list_any}
use Rattle.mv_chain.specs.Having.{patch_has}
use Rattle.mv_store.specs.Indexed.{Forgets}
use Rattle.mv_store.proofs.entries.ValueIndex.forget_undos.Given as goal

abbrev pub invariant-loop-undo : goal.invariant-loop-undo
invariant-loop-undo g l = Forgets l.table l.key (λ n v. list_any (λ x. patch_has n v x.patch) (take l.undo-index l.undos)) (g.K.Valued.versions l.kept) l.fn.self l.self
