-- The laws of the records of every full run.
use Rattle.std.specs.Prelude.{◌≡◌, ◌++◌, ℕ, true, List, [], Ok, length}
use Rattle.std.specs.List.{AllZip}
use Rattle.mv_values.specs.declared.schema.TableInfo.{TableInfo}
use Rattle.mv_values.specs.declared.calls.Call.{Call}
use Rattle.mv_values.specs.Keys.{IsRising}
use Rattle.mv_values.specs.Patching.{applied}
use Rattle.mv_values.specs.Tables.{rows_at, KeysStand, Tables}
use Rattle.mv_catalog.specs.Statements.{IsWell, stmt_step}
use Rattle.mv_catalog.specs.Text.{IsProcedure, Suits}
use Rattle.mv_catalog.specs.Types.{Vars}
use Rattle.mv_catalog.specs.declared.resolved.Program.{Program}
use Rattle.mv_catalog.specs.declared.resolved.ProcInfo.{ProcInfo}
use Rattle.mv_catalog.specs.declared.resolved.RStmt.{RStmt}
use Rattle.mv_catalog.specs.declared.resolved.RStmt.TheOpen.{RStmt-F}
use Rattle.mv_eval.specs.declared.state.State.{State}
use Rattle.mv_eval.specs.TableAfter.{table_after}
use Rattle.mv_record.specs.Runs.{TellsAll, NamesEarlier, writes_in}
use Rattle.mv_record.specs.Databases.{IsDatabaseOf, IsProgram}
use Rattle.mv_record.specs.Paths.{PathsRise}
use Rattle.mv_record.specs.declared.record.Record.{Record}
use Rattle.mv_record.specs.Writes.{AreRising}
use Rattle.mv_recorded.specs.Alike.{ReadsAlike}
use Rattle.mv_recorded.specs.Doing.{effect_of, itself}
use Rattle.mv_recorded.specs.Effect.{TellsEffect, HasColumns}
use Rattle.mv_recorded.specs.Own.{AllOwn, Bare, SetSuits, ground_of}
use Rattle.mv_recorded.specs.Posts.{IsRecordAt, path_above}
use Rattle.mv_recorded.specs.Recorded.{Site, own_record, recorded, meaning}
use Rattle.mv_recorded.specs.Typed.{IsEnvOf}

-- the records determine the reply and the database after the call, if the keys of each table rise
abbrev pub MeaningsTell : Type 0
MeaningsTell = (tables : List TableInfo) (proc : ProcInfo) (call : Call) (db : Tables) → ((t : ℕ) → IsRising (rows_at db t)) → TellsAll db (meaning tables proc call db)

-- the controllers and definers of records are earlier records
abbrev pub NamesEarlierOnes : Type 0
NamesEarlierOnes = (tables : List TableInfo) (proc : ProcInfo) (call : Call) (db : Tables) → NamesEarlier 0 (recorded tables proc call db)

-- records are in the order of their paths
abbrev pub PathsAreInOrder : Type 0
PathsAreInOrder = (tables : List TableInfo) (proc : ProcInfo) (call : Call) (db : Tables) → PathsRise (recorded tables proc call db)

-- each record has the whole effect of its statement, if the keys of each table rise
abbrev pub EffectsTold : Type 0
EffectsTold =
    (tables : List TableInfo) (params : ℕ) (s : RStmt-F RStmt) (n : ℕ) (site : Site) (before : List Record) (st : State) → HasColumns s
    → ((t : ℕ) → IsRising (rows_at st.tables t)) → TellsEffect (own_record tables params s n site before st) st (itself tables s st)

-- a well-formed statement has a column for each target
abbrev pub ColumnsThere : Type 0
ColumnsThere = (tables : List TableInfo) (s : RStmt-F RStmt) (vars : Vars) → stmt_step tables RStmt (λ s. s) (IsWell tables) s vars → HasColumns s

-- a statement keeps each row stored under its own values of the key columns
abbrev pub KeysKept : Type 0
KeysKept = (tables : List TableInfo) (s : RStmt-F RStmt) (st next : State) → KeysStand tables st.tables → itself tables s st ≡ Ok next → KeysStand tables next.tables

-- a well-formed statement keeps each variable's type, and leads from a database of its tables to another one
abbrev pub DatabaseKept : Type 0
DatabaseKept =
    (tables : List TableInfo) (s : RStmt-F RStmt) (vars : Vars) (st next : State) → stmt_step tables RStmt (λ s. s) (IsWell tables) s vars → IsEnvOf vars st.env → IsDatabaseOf tables st.tables → itself tables s st ≡ Ok next
    → IsEnvOf vars next.env × IsDatabaseOf tables next.tables

-- the first records of a full run lead to a database of its tables, however many they are
abbrev pub FrontsAreDatabases : Type 0
FrontsAreDatabases =
    (tables : List TableInfo) (proc : ProcInfo) (call : Call) (db : Tables) → IsProcedure tables proc → AllZip Suits proc.params call.arguments → IsDatabaseOf tables db
    → (front rest : List Record) → recorded tables proc call db ≡ front ++ rest → IsDatabaseOf tables (applied (writes_in front) db)

-- the calls of a program lead to a database of its tables, in any order
abbrev pub TablesAfterAre : Type 0
TablesAfterAre = (p : Program) → IsProgram p → (order : List ℕ) (k : ℕ) → IsDatabaseOf p.resolved.tables (table_after p order k)

-- a call of a READ ONLY procedure leaves each database as it is
abbrev pub ReadersChangeNothing : Type 0
ReadersChangeNothing = (tables : List TableInfo) (proc : ProcInfo) (call : Call) (db : Tables) → IsProcedure tables proc → proc.read_only ≡ true → (meaning tables proc call db).tables ≡ db

-- each record of a full run is the own record of a statement of the procedure, in the state after the records before
-- it, if the keys of each table rise
abbrev pub RecordsAreOwn : Type 0
RecordsAreOwn =
    (tables : List TableInfo) (proc : ProcInfo) (call : Call) (db : Tables) → IsProcedure tables proc → length call.arguments ≡ length proc.params → AreRising db
    → AllOwn (ground_of tables proc call db) [] (recorded tables proc call db)

-- the effect of a statement depends only on what it reads, on databases of its tables
abbrev pub EffectsRest : Type 0
EffectsRest = (tables : List TableInfo) (s : Bare) (st new : State) → HasColumns s → SetSuits tables s → ReadsAlike tables s st new → effect_of tables s st ≡ effect_of tables s new

-- two records of one run, or of two runs of a procedure, have equal paths if and only if their positions are equal;
-- then the paths of their controllers are equal too
abbrev pub OnePlaceOnePath : Type 0
OnePlaceOnePath =
    (tables others : List TableInfo) (proc : ProcInfo) (call other : Call) (db new : Tables) (i j : ℕ) (o r : Record) (p q : List ℕ)
    → IsRecordAt (recorded tables proc call db) i o p → IsRecordAt (recorded others proc other new) j r q
    → (p ≡ q → o.spot ≡ r.spot) × (o.spot ≡ r.spot → p ≡ q) × (p ≡ q → path_above (recorded tables proc call db) o ≡ path_above (recorded others proc other new) r)
