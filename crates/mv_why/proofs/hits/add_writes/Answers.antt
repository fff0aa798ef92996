use Rattle.std.proofs.Common.{◌≤◌, All, sym, subst}
use Rattle.mv_undo.specs.Owned.{Owned}
use Rattle.mv_undo.proofs.Writing.{most_behind}
use Rattle.mv_why.proofs.hits.add_writes.Goals as goal

pub push-requires : goal.push-requires
push-requires c = subst (All (λ (o : Owned). o.number ≤ c.args.number)) (sym c.loop-write.invariant) (most_behind c.args.number c.args.undo.now _ c.requires)
