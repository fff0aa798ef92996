-- What UPDATE, DELETE and INSERT make of the rows of a table. This project's own.
use Rattle.std.specs.Prelude.{◌≡◌, ℕ, not, List, [], ◌∷◌, Result, Ok, Err, slice_set, if◌then◌else◌, ◌==◌}
use Rattle.std.specs.List.{filter, list_any}
use Rattle.std.specs.declared.cmp.Ordering.{Ordering}
use Rattle.std.specs.declared.cmp.Ordering.TheVariants.{Less, Equal, Greater}
use Rattle.mv_values.specs.Preds.{meets}
use Rattle.mv_values.specs.declared.value.Value.{Value}
use Rattle.mv_values.specs.declared.pred.Test.{Test}
use Rattle.mv_values.specs.declared.rows.Keyed.{Keyed}
use Rattle.mv_values.specs.declared.schema.Column.{Column}
use Rattle.mv_values.specs.declared.calls.End.{End}
use Rattle.mv_values.specs.declared.calls.End.TheVariants.{Duplicate}
use Rattle.mv_values.specs.Order.{key_order}
use Rattle.mv_values.specs.Columns.{columns_of}
use Rattle.mv_values.specs.Tables.{rows_at}
use Rattle.mv_catalog.specs.declared.resolved.RExpr.{RExpr}
use Rattle.mv_catalog.specs.declared.resolved.RSetItem.{RSetItem}
use Rattle.mv_eval.specs.declared.state.Env.{Env}
use Rattle.mv_eval.specs.Results.{then_do}
use Rattle.mv_eval.specs.Value.{value_of}
use Rattle.mv_eval.specs.Rows.{fit, fit_kind}

-- sets a column, but never a key column
abbrev pub with_column : List ℕ → ℕ → Value → List Value → List Value
with_column keys c v row = if list_any (λ k. k == c) keys then row else slice_set row c v

-- the row after the items of SET, each evaluated over the row as it was and fitted, up to the first fault
abbrev pub set_row_by : (ℕ → Value → Result Value End) → List ℕ → Env → List Value → List RSetItem → List Value → Result (List Value) End
set_row_by fits keys env was [] row = Ok row
set_row_by fits keys env was (i ∷ is) row =
    then_do (value_of i.right env was) (λ v. then_do (fits i.column v) (λ w. set_row_by fits keys env was is (with_column keys i.column w row)))

-- the same where a value must fit its column, and no more
abbrev pub set_row : List Column → List ℕ → Env → List Value → List RSetItem → List Value → Result (List Value) End
set_row columns = set_row_by (fit columns)

-- the rows after each matching one is made anew, in key order up to the first fault
abbrev pub updated : (List Value → Result (List Value) End) → List Test → List Keyed → Result (List Keyed) End
updated new tests [] = Ok []
updated new tests (item ∷ items) =
    if meets tests item.row then then_do (new item.row) (λ row. then_do (updated new tests items) (λ rest. Ok (record item { row = row } ∷ rest)))
    else then_do (updated new tests items) (λ rest. Ok (item ∷ rest))

-- the rows that don't match
abbrev pub without : List Test → List Keyed → List Keyed
without tests rows = filter (λ item. not (meets tests item.row)) rows

-- the values of a new row, evaluated and fitted column by column
abbrev pub new_row : List Column → List RExpr → Env → Result (List Value) End
new_row [] es env = Ok []
new_row (c ∷ cs) [] env = Ok []
new_row (c ∷ cs) (e ∷ es) env = then_do (value_of e env []) (λ v. then_do (fit_kind c.kind v) (λ w. then_do (new_row cs es env) (λ vs. Ok (w ∷ vs))))

abbrev pub put_row_by : Ordering → Keyed → Keyed → List Keyed → Result (List Keyed) End → Result (List Keyed) End
put_row_by Less new item items later = Ok (new ∷ item ∷ items)
put_row_by Equal new item items later = Err Duplicate
put_row_by Greater new item items later = then_do later (λ rest. Ok (item ∷ rest))

-- puts a row into its place by key, unless its key is there
abbrev pub put_row : Keyed → List Keyed → Result (List Keyed) End
put_row new [] = Ok (new ∷ [])
put_row new (item ∷ items) = put_row_by (key_order new.key item.key) new item items (put_row new items)

-- a row under its key
abbrev pub keyed : List ℕ → List Value → Keyed
keyed keys row = record { key = columns_of row keys; row = row }

-- the rows of all tables but one don't change
abbrev pub OthersStay : ℕ → List (List Keyed) → List (List Keyed) → Type 0
OthersStay t old new = (u : ℕ) → (u ≡ t → ⊥) → rows_at new u ≡ rows_at old u
