-- Defines tables stored in versions: their rows after each commit, and the uncommitted writes of calls. That the rows
-- of a table are kept in versions is the paper's (Dashti, Basil John, Shaikhha and Koch, SIGMOD 2017); how the writes
-- of a call become a commit is this project's own.
use Rattle.std.specs.Prelude.{◌≡◌, ◌+◌, ◌++◌, ◌∷◌, ℕ, List, [], Option, Some, None, length, map, if◌then◌else◌}
use Rattle.mv_values.specs.declared.value.Value.{Value}
use Rattle.mv_values.specs.declared.rows.Keyed.{Keyed}
use Rattle.mv_values.specs.declared.patch.Patch.{Patch}
use Rattle.mv_values.specs.declared.patch.Write.{Write}
use Rattle.mv_values.specs.Keys.{stored}
use Rattle.mv_table.specs.Entries.{picked}
use Rattle.mv_chain.specs.Versions.{Versions, row_at, own_of, is_blank, collected}
use Rattle.mv_record.specs.Writes.{AreRising}

-- the versions under each key of a table
abbrev pub Entries : Type 0
Entries = List (List Value × Versions)

-- the versions of each table, the number of the last commit, and the least number at which rows are kept
pub record Versioned : Type 0 where
  pub tables : List Entries
  pub last : ℕ
  pub low : ℕ

-- what f picks of the versions under each key
abbrev pub picked_in : {B : Type 0} → (Versions → Option B) → List Entries → List (List (List Value × B))
picked_in f tables = map (picked f) tables

-- how many commits have changed the rows of a table since their bases
abbrev pub commits_in : Entries → ℕ
commits_in [] = 0
commits_in (e ∷ es) = length e.1.commits + commits_in es

-- how many versions are kept beside the newest ones
abbrev pub old_versions : List Entries → ℕ
old_versions [] = 0
old_versions (es ∷ tables) = commits_in es + old_versions tables

-- the versions, or none if they are blank
abbrev pub unless_blank : Versions → Option Versions
unless_blank v = if is_blank v then None else Some v

-- the tables with all versions collected up to low, without the keys whose versions are blank then
abbrev pub tables_from : ℕ → List Entries → List Entries
tables_from low tables = picked_in (λ v. unless_blank (collected low v)) tables

-- the rows of a table after commit n
abbrev pub table_at : ℕ → Entries → List Keyed
table_at n es = stored (picked (λ v. row_at v n) es)

-- the tables after commit n
abbrev pub database_at : Versioned → ℕ → List (List Keyed)
database_at s n = map (table_at n) s.tables

-- the tables after the last commit
abbrev pub newest : Versioned → List (List Keyed)
newest s = database_at s s.last

-- the patches of the table with this number, as writes
abbrev pub writes_to : ℕ → List (List Value × Patch) → List Write
writes_to t es = map (λ e. record { table = t; key = e.0; patch = e.1 }) es

-- the patches of each table as writes; the first table has this number
abbrev pub writes_from : ℕ → List (List (List Value × Patch)) → List Write
writes_from t [] = []
writes_from t (es ∷ tables) = writes_to t es ++ writes_from (t + 1) tables

-- the uncommitted writes of a call: one for each key, by table and key
abbrev pub own_writes : Versioned → ℕ → List Write
own_writes s call = writes_from 0 (picked_in (λ v. own_of call v.own) s.tables)

-- a database with as many tables, each with rising keys
pub record IsLike (s : Versioned) (db : List (List Keyed)) : Type 0 where
  pub size : length db ≡ length s.tables
  pub rising : AreRising db
