-- Hits by the own writes before a record, and the first record that one commit hits.
use Rattle.std.specs.Prelude.{ℕ, Bool, not, ◌&&◌, List, [], ◌∷◌, ◌++◌, Option, Some, None, length, take, if◌then◌else◌}
use Rattle.mv_values.specs.declared.pred.Pred.{Pred}
use Rattle.mv_values.specs.declared.patch.Write.{Write}
use Rattle.mv_values.specs.Preds.{admits, sees}
use Rattle.mv_record.specs.declared.record.Record.{Record}
use Rattle.mv_undo.specs.Owning.{touches}
use Rattle.mv_history.specs.declared.change.Change.{Change}
use Rattle.mv_history.specs.declared.change.Hit.{Hit}
use Rattle.mv_history.specs.Changes.{is_same}
use Rattle.mv_history.specs.Hits.{is_alike, any_hits}

-- a change of the predicate's table hits it
abbrev pub hits_pred : List Write → Change → Pred → Bool
hits_pred ws c p = if touches c.table c.key ws then admits p c.key && not (is_alike p c.before c.after) else not (is_same (sees p c.before) (sees p c.after))

-- so at a key that the predicate admits
abbrev pub hits_admitted : List Write → Change → Pred → Bool
hits_admitted ws c p = admits p c.key && hits_pred ws c p

-- the first of the rest of a call's records that one of the changes hits
abbrev pub first_record : List Change → List Record → List Record → Option ℕ
first_record changes before [] = None
first_record changes before (r ∷ rs) = if any_hits changes before r then Some (length before) else first_record changes (before ++ r ∷ []) rs

-- the records before the one that is hit, or all
abbrev pub records_before : Option Hit → List Record → List Record
records_before None rs = rs
records_before (Some hit) rs = take hit.number rs
