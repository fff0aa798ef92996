use Rattle.std.proofs.Common.{◌++◌, List, Ok, take}
use Rattle.mv_values.specs.declared.patch.Write.{Write}
use Rattle.mv_history.specs.Changes.{InOrder}
use Rattle.mv_changes.specs.Drafting.{IsDraft, HasAsked, by_place}
use Rattle.mv_changes.proofs.commit.add_writes.Given as goal

abbrev pub invariant-loop-write : goal.invariant-loop-write
invariant-loop-write g l =
    let sight = g.V.View.sight in
    record {
      order : InOrder l.changes;
      draft : (ws : List Write) → IsDraft (by_place l.fn.changes) ws (sight l.fn.view).database → IsDraft (by_place l.changes) (ws ++ take l.write-index l.writes) (sight l.fn.view).database;
      asked : HasAsked {A = Unit {0}} l.write-index (sight l.fn.view) (sight l.view) (Ok tt);
    }
