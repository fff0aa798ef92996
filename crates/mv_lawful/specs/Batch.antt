-- What calls do, whatever their procedures are, and what follows from an order of commits: the database after each
-- commit, the changes of each commit, and the records of a call at any start. This project's own.
use Rattle.std.specs.Prelude.{◌≡◌, ℕ, ◌+◌, ◌-◌, Bool, true, List, [], ◌∷◌, Option, take, drop}
use Rattle.std.specs.List.{flat_map}
use Rattle.mv_values.specs.declared.calls.Options.{Options}
use Rattle.mv_values.specs.Tables.{Tables}
use Rattle.mv_record.specs.declared.record.Record.{Record}
use Rattle.mv_record.specs.Runs.{Run}
use Rattle.mv_history.specs.declared.change.Change.{Change}
use Rattle.mv_history.specs.declared.change.Hit.{Hit}
use Rattle.mv_history.specs.Changes.{changes_between}
use Rattle.mv_history.specs.Hits.{first_hit}

-- the run of each call on each database, which calls are read only, the number of calls, the opening database, and the
-- options
pub record Batch : Type 0 where
  pub run : ℕ → Tables → Run
  pub read_only : ℕ → Bool
  pub count : ℕ
  pub opening : Tables
  pub options : Options

-- the database after these calls, executed one after another
abbrev pub tables_after : Batch → Tables → List ℕ → Tables
tables_after w db [] = db
tables_after w db (c ∷ cs) = tables_after w (w.run c db).tables cs

-- T(order, k): the database after the first k calls of the order
abbrev pub table_at : Batch → List ℕ → ℕ → Tables
table_at w order k = tables_after w w.opening (take k order)

-- the records of a full run of a call that starts after so many commits
abbrev pub records_at : Batch → List ℕ → ℕ → ℕ → List Record
records_at w order start c = (w.run c (table_at w order start)).records

-- Change(k): the changes of each commit, for calls executed one after another
abbrev pub changes_after : Batch → Tables → List ℕ → List (List Change)
changes_after w db [] = []
changes_after w db (c ∷ cs) = changes_between db (w.run c db).tables ∷ changes_after w (w.run c db).tables cs

-- the changes of each commit after the start
abbrev pub since : Batch → List ℕ → ℕ → List (List Change)
since w order start = drop start (changes_after w w.opening order)

-- the changes of all commits after an old start, up to a new one, in one list
abbrev pub changes_up_to : Batch → List ℕ → ℕ → ℕ → List Change
changes_up_to w order old new = flat_map (λ changes. changes) (take (new - old) (since w order old))

-- the first hit of a full run of a call, by the commits after its start
abbrev pub hit_of : Batch → List ℕ → ℕ → ℕ → Option Hit
hit_of w order start c = first_hit (start + 1) (since w order start) [] (records_at w order start c)

-- read only calls leave each database as it is
abbrev pub ReadersKeepTables : Batch → Type 0
ReadersKeepTables w = (c : ℕ) (db : Tables) → w.read_only c ≡ true → (w.run c db).tables ≡ db
