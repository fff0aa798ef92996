use Rattle.std.proofs.Common.{take}
use Rattle.std.specs.Prelude.{◌==◌, ◌&&◌}
use Rattle.std.specs.List.{list_any}
use Rattle.mv_chain.specs.Having.{patch_has}
use Rattle.mv_store.specs.Indexed.{Forgets}
use Rattle.mv_store.proofs.entries.ValueIndex.forget_call.Given as goal

abbrev pub invariant-loop-pending : goal.invariant-loop-pending
invariant-loop-pending g l = Forgets l.table l.key (λ n v. list_any (λ x. (x.call == l.call) && patch_has n v x.patch) (take l.pending-index l.own)) (g.K.Valued.versions l.kept) l.fn.self l.self
