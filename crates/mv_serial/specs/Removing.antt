-- Whether the rows that DELETE removes have children that stay. This project's own.
use Rattle.std.specs.Prelude.{ℕ, Bool, ◌==◌, ◌||◌, not, List}
use Rattle.std.specs.List.{filter}
use Rattle.mv_values.specs.declared.value.Value.{Value}
use Rattle.mv_values.specs.declared.pred.Test.{Test}
use Rattle.mv_values.specs.Preds.{meets}
use Rattle.mv_values.specs.References.{Reference}
use Rattle.mv_values.specs.Tables.{rows_at, Tables}
use Rattle.mv_eval.specs.References.{has_children}
use Rattle.mv_eval.specs.Rows.{matching}

-- a row of table u isn't one of table t that matches
abbrev pub stays : ℕ → List Test → ℕ → List Value → Bool
stays t tests u row = not (u == t) || not (meets tests row)

-- the columns with REFERENCES to a table
abbrev pub to_table : ℕ → List Reference → List Reference
to_table t refs = filter (λ r. r.parent == t) refs

-- one of the rows of a table that match has a child that stays
abbrev pub have_children : List Reference → ℕ → List Test → Tables → Bool
have_children refs t tests db = has_children refs t tests db (matching tests (rows_at db t))
