-- Changes of tables, and how to undo them. This project's own.
use Rattle.std.specs.Prelude.{◌≡◌, ℕ, List, [], ◌∷◌, Some, None, map, slice_set, Result, Ok, Err}
use Rattle.mv_values.specs.declared.value.Value.{Value}
use Rattle.mv_values.specs.declared.rows.Keyed.{Keyed}
use Rattle.mv_values.specs.declared.calls.End.{End}
use Rattle.mv_values.specs.Patching.{placed}
use Rattle.mv_values.specs.Tables.{rows_at}
use Rattle.mv_eval.specs.Results.{then_do}
use Rattle.mv_serial.specs.declared.change.RowChange.{RowChange}
use Rattle.mv_eval.specs.declared.state.Stop.{Stop}
use Rattle.mv_eval.specs.declared.state.Stop.TheVariants.{Memory, Ended}

-- the database after a change
abbrev pub changed_in : RowChange → List (List Keyed) → List (List Keyed)
changed_in c db = slice_set db c.table (placed c.key c.row (rows_at db c.table))

-- the database after changes, the last of which is made first
abbrev pub changed_by : List RowChange → List (List Keyed) → List (List Keyed)
changed_by [] db = db
changed_by (c ∷ cs) db = changed_in c (changed_by cs db)

-- the changes that make rows anew, up to the first fault
abbrev pub renewals : ℕ → (List Value → Result (List Value) End) → List Keyed → Result (List RowChange) End
renewals t new [] = Ok []
renewals t new (item ∷ items) =
    then_do (new item.row) (λ row. then_do (renewals t new items) (λ rest. Ok (record { table = t; key = item.key; row = Some row } ∷ rest)))

-- the changes that remove rows
abbrev pub removals : ℕ → List Keyed → List RowChange
removals t items = map (λ item. record { table = t; key = item.key; row = None }) items

-- undoing brings back the same database as before
abbrev pub KeepsUndo : List RowChange → List (List Keyed) → List RowChange → List (List Keyed) → Type 0
KeepsUndo before db after new = changed_by after new ≡ changed_by before db

-- the same, unless memory ran out
abbrev pub StaysUndoable : Result (Unit {0}) Stop → List RowChange → List (List Keyed) → List RowChange → List (List Keyed) → Type 0
StaysUndoable (Ok x) before db after new = KeepsUndo before db after new
StaysUndoable (Err Memory) before db after new = Unit {0}
StaysUndoable (Err (Ended e)) before db after new = KeepsUndo before db after new
