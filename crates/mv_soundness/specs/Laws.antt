-- The laws of two full runs of one call, on an old database and on a new one. That only what depends on a change is
-- executed again is the paper's (Dashti, Basil John, Shaikhha and Koch, SIGMOD 2017). The laws by records are this
-- project's own.
use Rattle.std.specs.Prelude.{◌≡◌, ℕ, true, false, [], ◌∷◌, ◌++◌, List, Option, Some, map, slice_get}
use Rattle.std.specs.List.{AllZip}
use Rattle.mv_values.specs.declared.schema.TableInfo.{TableInfo}
use Rattle.mv_values.specs.declared.calls.Call.{Call}
use Rattle.mv_values.specs.Patching.{applied}
use Rattle.mv_values.specs.Tables.{Tables}
use Rattle.mv_catalog.specs.declared.resolved.ProcInfo.{ProcInfo}
use Rattle.mv_catalog.specs.Text.{IsProcedure, Suits}
use Rattle.mv_record.specs.declared.record.Record.{Record}
use Rattle.mv_record.specs.Databases.{IsDatabaseOf}
use Rattle.mv_record.specs.Effects.{effect_in}
use Rattle.mv_record.specs.Runs.{TellsAll, writes_in}
use Rattle.mv_recorded.specs.Alike.{SeenAlike}
use Rattle.mv_recorded.specs.Asking.{KnowsKey}
use Rattle.mv_recorded.specs.Own.{Each}
use Rattle.mv_recorded.specs.Recorded.{recorded, meaning}
use Rattle.mv_history.specs.declared.change.Change.{Change}
use Rattle.mv_history.specs.Changes.{Covers}
use Rattle.mv_history.specs.Hits.{any_hits, is_unhit}
use Rattle.mv_history.specs.Kept.{Path, Placed, with_paths, path_at, among, at, stays, kept_paths, keep}

-- the paths of the definers of the variables that a record reads
abbrev pub definer_paths : List Placed → Record → List (Option Path)
definer_paths rs r = map (λ read. path_at rs read.definer) r.reads

-- records of two runs are alike: they have the same effect and read the same variables, and their controllers and the
-- definers of these variables have the same paths
pub record AreAlike (os ns : List Placed) (o r : Record) : Type 0 where
  pub effect : effect_in o ≡ effect_in r
  pub above : path_at os o.parent ≡ path_at ns r.parent
  pub variables : map (λ read. read.slot) o.reads ≡ map (λ read. read.slot) r.reads
  pub definers : definer_paths os o ≡ definer_paths ns r

-- the old run has a record with the same path that is alike
pub record HasAlike (os ns : List Placed) (r : Placed) : Type 0 where
  pub number : ℕ
  pub o : Placed
  pub there : slice_get os number ≡ Some o
  pub path : o.path ≡ r.path
  pub alike : AreAlike os ns o.it r.it

-- a call of a well-formed procedure, two databases of its tables, and changes that cover the step from one to the other
pub record AreRuns (tables : List TableInfo) (proc : ProcInfo) (call : Call) (db new : Tables) (changes : List Change) : Type 0 where
  pub procedure : IsProcedure tables proc
  pub arguments : AllZip Suits proc.params call.arguments
  pub old_is : IsDatabaseOf tables db
  pub new_is : IsDatabaseOf tables new
  pub covers : Covers changes db new

-- this is true of two such runs
abbrev pub OfRuns : (List TableInfo → ProcInfo → Call → Tables → Tables → List Change → Type 0) → Type 0
OfRuns P = (tables : List TableInfo) (proc : ProcInfo) (call : Call) (db new : Tables) (changes : List Change) → AreRuns tables proc call db new changes → P tables proc call db new changes

-- the new run has the records of the old one, and these determine its reply and the database after it: the new database
-- with their writes if no record ends the call, else the new database itself
pub record RunsAsBefore (tables : List TableInfo) (proc : ProcInfo) (call : Call) (db new : Tables) : Type 0 where
  pub records : (meaning tables proc call new).records ≡ (meaning tables proc call db).records
  pub tells : TellsAll new (record (meaning tables proc call new) { records = (meaning tables proc call db).records })

-- a record of a call on two databases of its tables: `before` are the records before it, whose writes leave databases of
-- these tables, and the tests of its predicates have the positions of their columns in the keys
pub record AreAsked (tables : List TableInfo) (before : List Record) (r : Record) (db new : Tables) (changes : List Change) : Type 0 where
  pub old_is : IsDatabaseOf tables db
  pub new_is : IsDatabaseOf tables new
  pub old_after : IsDatabaseOf tables (applied (writes_in before) db)
  pub new_after : IsDatabaseOf tables (applied (writes_in before) new)
  pub covers : Covers changes db new
  pub preds : Each (KnowsKey tables) r.preds

-- if no change hits a record, each of its predicates finds rows with the same keys and the same selected columns on both
-- databases, after the writes of the records before it
abbrev pub UnhitPredicatesSeeAlike : Type 0
UnhitPredicatesSeeAlike =
    (tables : List TableInfo) (before : List Record) (r : Record) (db new : Tables) (changes : List Change) → AreAsked tables before r db new changes → any_hits changes before r ≡ false
    → Each (λ p. SeenAlike p (applied (writes_in before) db) (applied (writes_in before) new)) r.preds

-- if no change hits a record of the old run, the new run is as before
abbrev pub UnhitRunsAreEqual : Type 0
UnhitRunsAreEqual = OfRuns (λ tables proc call db new changes. is_unhit changes [] (recorded tables proc call db) ≡ true → RunsAsBefore tables proc call db new)

-- each record of the new run that is kept is alike to the record of the old run with the same path
abbrev pub KeptRecordsAreAlike : Type 0
KeptRecordsAreAlike = OfRuns (λ tables proc call db new changes.
    let os : List Record = recorded tables proc call db in
    let ns : List Record = recorded tables proc call new in
    Each (λ (r : Placed). among (kept_paths os ns changes) r.path ≡ true → HasAlike (with_paths os) (with_paths ns) r) (with_paths ns))

-- the record of the new run after its first ones, if it stays, is alike to the record of the old run with the same path
abbrev pub NextRecordIsAlike : Type 0
NextRecordIsAlike = OfRuns (λ tables proc call db new changes.
    let os : List Placed = with_paths (recorded tables proc call db) in
    let ns : List Placed = with_paths (recorded tables proc call new) in
    (front : List Placed) (r : Placed) (behind : List Placed) (o : Placed) → ns ≡ front ++ r ∷ behind → at r.path os ≡ Some o
    → stays changes (keep changes os [] [] front) os front r ≡ true → AreAlike os ns o.it r.it)
