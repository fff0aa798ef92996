-- Rows under their own keys. That a row's key is its values of the key columns is this project's own rule.
use Rattle.std.specs.Prelude.{◌≡◌, ℕ, List, All}
use Rattle.mv_values.specs.Columns.{columns_of}
use Rattle.mv_values.specs.declared.rows.Keyed.{Keyed}

-- each row is under its own values of the key columns
abbrev pub StandUnder : List ℕ → List Keyed → Type 0
StandUnder keys rows = All (λ item. item.key ≡ columns_of item.row keys) rows
