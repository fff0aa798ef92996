-- Defines when the first or the last row in key order is enough. This project's own.
use Rattle.std.specs.Prelude.{◌≡◌, ◌+◌, ◌==◌, ◌&&◌, ℕ, pos, Bool, true, false, List, [], ◌∷◌, Option, Some, None, length, All, AllPairs, Result, Ok, if◌then◌else◌}
use Rattle.std.specs.Bool.{then_some}
use Rattle.std.specs.List.{position}
use Rattle.std.specs.Option.{option_map}
use Rattle.std.specs.Ordering.{is_le}
use Rattle.std.specs.declared.cmp.Ordering.TheVariants.{Less}
use Rattle.mv_values.specs.Preds.{meets}
use Rattle.mv_values.specs.declared.value.Value.{Value}
use Rattle.mv_values.specs.declared.pred.Test.{Test}
use Rattle.mv_values.specs.declared.rows.Keyed.{Keyed}
use Rattle.mv_values.specs.declared.calls.End.{End}
use Rattle.mv_values.specs.Columns.{column_of}
use Rattle.mv_values.specs.Keys.{IsRising}
use Rattle.mv_values.specs.Order.{value_order}
use Rattle.mv_table.specs.declared.scan.Direction.{Direction}
use Rattle.mv_table.specs.declared.scan.Direction.TheVariants.{Forward, Backward}
use Rattle.mv_table.specs.Scans.{foremost}
use Rattle.mv_table.specs.Spans.{Admits, are_fixed_before}
use Rattle.mv_catalog.specs.declared.resolved.RAgg.{RAgg}
use Rattle.mv_catalog.specs.declared.resolved.RAgg.TheVariants.{Min, Max}
use Rattle.mv_catalog.specs.declared.resolved.RSort.{RSort}
use Rattle.mv_eval.specs.Results.{then_do}
use Rattle.mv_eval.specs.Own.{StandUnder}
use Rattle.mv_eval.specs.Rows.{aggregate, is_some_row, item_at, ordered}

-- the value of an aggregate over rows, and whether there are any
abbrev pub total_found : RAgg → List Keyed → Result (Option Value × Bool) End
total_found agg rows = then_do (aggregate agg rows) (λ v. Ok (v, is_some_row rows))

-- the tests admit the key of each row that matches
abbrev pub AdmitMatches : List Test → List Keyed → Type 0
AdmitMatches tests rows = All (λ item. meets tests item.row ≡ true → Admits tests item.key) rows

-- each row that matches has this key
abbrev pub MatchesOnly : List Test → List Value → List Keyed → Type 0
MatchesOnly tests key rows = All (λ item. meets tests item.row ≡ true → item.key ≡ key) rows

-- rows in key order, each under its own key, which the tests admit
pub record AreAdmitted (keys : List ℕ) (tests : List Test) (rows : List Keyed) : Type 0 where
  pub rising : IsRising rows
  pub own : StandUnder keys rows
  pub admitted : All (λ item. Admits tests item.key) rows

-- from such a row to a later one the value of the column never falls
abbrev pub NeverFalls : List ℕ → List Test → ℕ → Type 0
NeverFalls keys tests c = (rows : List Keyed) → AreAdmitted keys tests rows → AllPairs (λ (a b : Keyed). is_le (value_order (column_of a.row c) (column_of b.row c)) ≡ true) rows

-- it rises
abbrev pub Rises : List ℕ → List Test → ℕ → Type 0
Rises keys tests c = (rows : List Keyed) → AreAdmitted keys tests rows → AllPairs (λ (a b : Keyed). value_order (column_of a.row c) (column_of b.row c) ≡ Less) rows

-- of such rows the first one in this direction has the value of the aggregate in the column
abbrev pub IsFromEnd : RAgg → List ℕ → List Test → ℕ → Direction → Type 0
IsFromEnd agg keys tests c direction = (rows : List Keyed) → AreAdmitted keys tests rows → aggregate agg rows ≡ Ok (option_map (λ item. column_of item.row c) (foremost direction rows))

-- of such rows the first one in this direction is the first in ORDER BY order
abbrev pub Leads : List RSort → List ℕ → List Test → Direction → Type 0
Leads sorts keys tests direction = (rows : List Keyed) → AreAdmitted keys tests rows → item_at (ordered sorts rows) (pos 0) ≡ foremost direction rows

-- `=` fixes all key columns before this place, where it is one
abbrev pub is_next_fixed : List Test → Option ℕ → Bool
is_next_fixed tests None = false
is_next_fixed tests (Some place) = are_fixed_before tests place

-- the place is the last of the key
abbrev pub is_last_of : List ℕ → Option ℕ → Bool
is_last_of keys None = false
is_last_of keys (Some place) = place + 1 == length keys

-- rows that the tests admit are in the order of the column: it is a key column, and `=` fixes all key columns before it
abbrev pub does_order : List ℕ → List Test → ℕ → Bool
does_order keys tests c = is_next_fixed tests (position (λ k. k == c) keys)

-- no two of them tie in it: it is the last key column
abbrev pub does_rank : List ℕ → List Test → ℕ → Bool
does_rank keys tests c = is_last_of keys (position (λ k. k == c) keys) && does_order keys tests c

-- the column and the direction in which one row is enough for an aggregate, if one is
abbrev pub aggregate_direction : RAgg → List ℕ → List Test → Option (ℕ × Direction)
aggregate_direction (Min c) keys tests = then_some (does_order keys tests c) (c, Forward)
aggregate_direction (Max c) keys tests = then_some (does_order keys tests c) (c, Backward)
aggregate_direction agg keys tests = None

abbrev pub sort_direction : RSort → List ℕ → List Test → Option Direction
sort_direction sort keys tests = if sort.descending then then_some (does_rank keys tests sort.column) Backward else then_some (does_order keys tests sort.column) Forward

-- the direction in which one row is enough for the first in ORDER BY order, if one is
abbrev pub order_direction : List RSort → List ℕ → List Test → Option Direction
order_direction [] keys tests = Some Forward
order_direction (sort ∷ []) keys tests = sort_direction sort keys tests
order_direction (sort ∷ other ∷ sorts) keys tests = None
