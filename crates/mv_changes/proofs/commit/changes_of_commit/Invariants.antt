use Rattle.std.proofs.Common.{Ok, take, length}
use Rattle.mv_record.specs.Runs.{writes_in}
use Rattle.mv_history.specs.Changes.{InOrder}
use Rattle.mv_changes.specs.Drafting.{IsDraft, HasAsked, by_place}
use Rattle.mv_changes.proofs.commit.changes_of_commit.Given as goal

abbrev pub invariant-loop-number : goal.invariant-loop-number
invariant-loop-number g l =
    let sight = g.V.View.sight in
    record {
      order : InOrder l.changes;
      draft : IsDraft (by_place l.changes) (writes_in (take l.number l.records)) (sight l.fn.view).database;
      asked : HasAsked {A = Unit {0}} (length (writes_in (take l.number l.records))) (sight l.fn.view) (sight l.view) (Ok tt);
    }
