-- What a call sees of a database before its own writes.
use Rattle.std.specs.Prelude.{◌≡◌, ◌<◌, Bool, true, false, List, [], ◌∷◌, length}
use Rattle.std.specs.Ordering.{is_le}
use Rattle.mv_values.specs.declared.value.Value.{Value}
use Rattle.mv_values.specs.declared.rows.Keyed.{Keyed}
use Rattle.mv_values.specs.declared.patch.Write.{Write}
use Rattle.mv_values.specs.declared.pred.Pred.{Pred}
use Rattle.mv_values.specs.Order.{key_order}
use Rattle.mv_values.specs.Patching.{row_of, applied, found_by}
use Rattle.mv_values.specs.Tables.{rows_at}
use Rattle.mv_record.specs.Writes.{writes_on, AreRising}
use Rattle.mv_record.specs.Admitting.{Admitted}
use Rattle.mv_undo.specs.Owning.{is_sought, is_fixed}

-- `rows` are the rows that a predicate finds in a database; `own` has the database's row at each key that the writes have
-- and the predicate admits, where they don't fix the row; the predicate's table exists, and the predicate admits the key
-- of each row that it matches, before or after the writes
pub record IsSeen (pred : Pred) (ws : List Write) (rows own : List Keyed) (db : List (List Keyed)) : Type 0 where
  pub rising : AreRising db
  pub table : pred.table < length db
  pub found : rows ≡ found_by pred db
  pub old : (key : List Value) → is_sought pred ws key ≡ true → is_fixed (writes_on pred.table key ws) ≡ false → row_of own key ≡ row_of (rows_at db pred.table) key
  pub before : Admitted pred (rows_at db pred.table)
  pub behind : Admitted pred (rows_at (applied ws db) pred.table)

-- the key of the first row is at most this one
abbrev pub begins_up_to : List Value → List Keyed → Bool
begins_up_to key [] = false
begins_up_to key (item ∷ items) = is_le (key_order item.key key)
