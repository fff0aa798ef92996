use Rattle.std.proofs.Common.{◌≡◌, take}
use Rattle.mv_effect.specs.Looking.{IsSameView, WasNeverStale}
use Rattle.mv_gate.proofs.tables.tables_shown.Given as goal

abbrev pub invariant-loop-table : goal.invariant-loop-table
invariant-loop-table g l =
    let sight = g.V.View.sight in
    record {
      copied : l.tables ≡ take l.table (sight l.fn.view).database;
      same : IsSameView (sight l.fn.view) (sight l.view);
      never : WasNeverStale (sight l.fn.view) (sight l.view);
    }
