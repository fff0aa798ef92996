-- What the records of a run determine: its lines, its end, and the database after it. All definitions are over records
-- alone, so they apply to any meaning of a procedure.
use Rattle.std.specs.Prelude.{◌≡◌, ◌<◌, ℕ, ◌+◌, List, [], ◌∷◌, ◌++◌, Option, None, Some, option_to_list}
use Rattle.std.specs.List.{flat_map}
use Rattle.std.specs.Option.{option_or}
use Rattle.mv_values.specs.declared.calls.Call.{Call}
use Rattle.mv_values.specs.declared.calls.End.{End}
use Rattle.mv_values.specs.declared.calls.Reply.{Reply}
use Rattle.mv_values.specs.declared.patch.Write.{Write}
use Rattle.mv_values.specs.Patching.{applied}
use Rattle.mv_values.specs.Tables.{Tables}
use Rattle.mv_record.specs.declared.record.Read.{Read}
use Rattle.mv_record.specs.declared.record.Record.{Record}

-- the result of running a call on a database: its records, its reply, and the database after it
pub record Run : Type 0 where
  pub records : List Record
  pub reply : Reply
  pub tables : Tables

-- the results of the calls of a procedure
abbrev pub Behavior : Type 0
Behavior = Call → Tables → Run

-- Lines and the end

abbrev pub lines_in : List Record → List (List ℕ)
lines_in rs = flat_map (λ r. option_to_list r.line) rs

-- the first end
abbrev pub end_in : List Record → Option End
end_in [] = None
end_in (r ∷ rs) = option_or r.end (end_in rs)

-- the last record has the end, and no other has any
pub record StopsWith (rs : List Record) (e : End) : Type 0 where
  pub front : List Record
  pub last : Record
  pub are : rs ≡ front ++ last ∷ []
  pub goes_on : end_in front ≡ None
  pub ends : last.end ≡ Some e

-- Writes

-- the writes of all records, in order
abbrev pub writes_in : List Record → List Write
writes_in rs = flat_map (λ r. r.writes) rs

-- Numbers

-- the number, if any, is an earlier one
abbrev pub IsEarlier : ℕ → Option ℕ → Type 0
IsEarlier n None = Unit {0}
IsEarlier n (Some m) = m < n

abbrev pub ReadsEarlier : ℕ → List Read → Type 0
ReadsEarlier n [] = Unit {0}
ReadsEarlier n (r ∷ rs) = IsEarlier n r.definer × ReadsEarlier n rs

-- each record's controller and definers are earlier records, if the first record has this number
abbrev pub NamesEarlier : ℕ → List Record → Type 0
NamesEarlier n [] = Unit {0}
NamesEarlier n (r ∷ rs) = IsEarlier n r.parent × ReadsEarlier n r.reads × NamesEarlier (n + 1) rs

-- Properties of a run

-- no record ends the call, the lines are those of the records, and their writes lead to the database after the run
pub record GoesThrough (db : Tables) (run : Run) : Type 0 where
  pub goes_on : end_in run.records ≡ None
  pub lines : run.reply.lines ≡ lines_in run.records
  pub tables : run.tables ≡ applied (writes_in run.records) db

-- the last record ends the call, there are no lines, and the database is unchanged
pub record IsRolledBack (e : End) (db : Tables) (run : Run) : Type 0 where
  pub stops : StopsWith run.records e
  pub lines : run.reply.lines ≡ []
  pub tables : run.tables ≡ db

abbrev pub HasEnd : Option End → Tables → Run → Type 0
HasEnd None db run = GoesThrough db run
HasEnd (Some e) db run = IsRolledBack e db run

-- the records of a run determine its reply and the database after it
abbrev pub TellsAll : Tables → Run → Type 0
TellsAll db run = HasEnd run.reply.end db run
