-- What contracts see of a log.
use Rattle.std.specs.Prelude.{◌==◌, ◌++◌, ◌∷◌, ℕ, List, [], None, if◌then◌else◌}
use Rattle.std.specs.List.{list_any}
use Rattle.mv_values.specs.declared.pred.Test.{Test}
use Rattle.mv_record.specs.declared.effect.Effect.{Effect}
use Rattle.mv_record.specs.declared.record.Read.{Read}
use Rattle.mv_record.specs.declared.record.Record.{Record}
use Rattle.mv_undo.specs.Owned.{Owned}
use Rattle.mv_undo.specs.Owning.{undo_of_all}

-- the records of the run; those of the run before a repair, of which those below a number may have been kept; and of the
-- statement that is being executed the turns, the reads, the effect so far, and the tests and columns of its next
-- predicate
pub record Logged : Type 0 where
  pub records : List Record
  pub past : List Record
  pub kept : ℕ
  pub turns : List ℕ
  pub reads : List Read
  pub effect : Effect
  pub tests : List Test
  pub columns : List ℕ

-- the effect of a statement that does nothing
abbrev pub no_effect : Effect
no_effect = record { preds = []; sets = []; rows = []; writes = []; line = None; end = None }

-- a log without records
abbrev pub empty : Logged
empty = record { records = []; past = []; kept = 0; turns = []; reads = []; effect = no_effect; tests = []; columns = [] }

-- the writes of the records, each with the number of its record
abbrev pub owned : Logged → List Owned
owned log = undo_of_all 0 log.records

-- the columns with one more, unless it stands there
abbrev pub once_more : List ℕ → ℕ → List ℕ
once_more cs c = if list_any (λ d. d == c) cs then cs else cs ++ c ∷ []
