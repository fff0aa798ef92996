-- Defines the tables of a history, and when a shard was last changed. This project's own.
use Rattle.std.specs.Prelude.{ℕ, zero, suc, Bool, List, if◌then◌else◌}
use Rattle.std.specs.List.{list_any}
use Rattle.mv_values.specs.Tables.{Tables}
use Rattle.mv_history.specs.declared.change.Change.{Change}
use Rattle.mv_history.specs.Changes.{changes_between}
use Rattle.mv_lawful.specs.Batch.{table_at}
use Rattle.mv_seats.specs.Scripts.{BoardScript}
use Rattle.mv_shards.specs.Scripts.{batch}
use Rattle.mv_shards.specs.Parts.{is_in}

-- the database after the first n calls of a history
abbrev pub tables_at : BoardScript → List ℕ → ℕ → Tables
tables_at s order n = table_at (batch s) order n

-- one of the changes is of a key that shard q has
abbrev pub changes_in : ℕ → List Change → Bool
changes_in q changes = list_any (λ c. is_in q c.table c.key) changes

-- the last commit up to n that changes a row of shard q, or 0
abbrev pub last_touch : BoardScript → ℕ → List ℕ → ℕ → ℕ
last_touch s q order zero = 0
last_touch s q order (suc n) = if changes_in q (changes_between (tables_at s order n) (tables_at s order (suc n))) then suc n else last_touch s q order n
