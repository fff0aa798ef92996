-- The initial versions of a database.
use Rattle.std.specs.Prelude.{List, [], Some, map}
use Rattle.mv_values.specs.declared.rows.Keyed.{Keyed}
use Rattle.mv_store.specs.Stored.{Entries}

-- each row alone under its key, before any commit
abbrev pub opened : List Keyed → Entries
opened rows = map (λ item. (item.key, record { base = Some item.row; commits = []; own = [] })) rows
