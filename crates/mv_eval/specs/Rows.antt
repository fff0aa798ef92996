-- The rows of a table: which ones match, their order, and their aggregates. This project's own.
use Rattle.std.specs.Prelude.{◌≡◌, ◌==◌, ℕ, ℤ, pos, negsuc, ◌+ℤ◌, Bool, true, false, List, [], ◌∷◌, Option, Some, None, Result, Ok, Err, map, length, slice_get, if◌then◌else◌, nat_le}
use Rattle.std.specs.List.{filter, position}
use Rattle.std.specs.Ordering.{is_gt, is_le, ordering_reverse}
use Rattle.std.specs.declared.cmp.Ordering.{Ordering}
use Rattle.std.specs.declared.cmp.Ordering.TheVariants.{Less, Equal, Greater}
use Rattle.mv_values.specs.declared.value.Value.{Value}
use Rattle.mv_values.specs.declared.value.Value.TheVariants.{Int, Text}
use Rattle.mv_values.specs.declared.op.Op.{Op}
use Rattle.mv_values.specs.declared.pred.Test.{Test}
use Rattle.mv_values.specs.declared.rows.Keyed.{Keyed}
use Rattle.mv_values.specs.declared.schema.ColType.{ColType}
use Rattle.mv_values.specs.declared.schema.ColType.TheVariants as kind
use Rattle.mv_values.specs.declared.schema.Column.{Column}
use Rattle.mv_values.specs.declared.calls.End.{End}
use Rattle.mv_values.specs.declared.calls.End.TheVariants.{TooLong}
use Rattle.mv_values.specs.Preds.{meets}
use Rattle.mv_values.specs.Order.{value_order, key_order}
use Rattle.mv_values.specs.Columns.{column_of, columns_of, number}
use Rattle.mv_catalog.specs.declared.resolved.RCond.{RCond}
use Rattle.mv_catalog.specs.declared.resolved.RSort.{RSort}
use Rattle.mv_catalog.specs.declared.resolved.RAgg.{RAgg}
use Rattle.mv_catalog.specs.declared.resolved.RAgg.TheVariants.{CountAll, CountDistinct, Sum, Min, Max}
use Rattle.mv_eval.specs.declared.state.Env.{Env}
use Rattle.mv_eval.specs.Results.{then_do}
use Rattle.mv_eval.specs.Value.{value_of, fitted}

-- a test of a column of a table with these key columns
abbrev pub test_on : List ℕ → ℕ → Op → Value → Test
test_on keys c op v = record { column = c; key_place = position (λ k. k == c) keys; op = op; value = v }

-- the tests of WHERE over a table with these key columns, with their right sides evaluated in order, before any row is
-- read
abbrev pub tests_of : List ℕ → List RCond → Env → Result (List Test) End
tests_of keys [] env = Ok []
tests_of keys (c ∷ cs) env = then_do (value_of c.right env []) (λ v. then_do (tests_of keys cs env) (λ tests. Ok (test_on keys c.column c.op v ∷ tests)))

-- the test has the place of its column in the key
abbrev pub IsPlaced : List ℕ → Test → Type 0
IsPlaced keys test = test.key_place ≡ position (λ k. k == test.column) keys

-- the rows that match, in key order
abbrev pub matching : List Test → List Keyed → List Keyed
matching tests rows = filter (λ item. meets tests item.row) rows

abbrev pub is_some_row : List Keyed → Bool
is_some_row [] = false
is_some_row (item ∷ items) = true

-- the first order, or the other one if the first is a tie
abbrev pub then_by : Ordering → Ordering → Ordering
then_by Less other = Less
then_by Equal other = other
then_by Greater other = Greater

-- compares two rows by ORDER BY, and rows that tie by key
abbrev pub sort_order : List RSort → Keyed → Keyed → Ordering
sort_order [] a b = key_order a.key b.key
sort_order (s ∷ ss) a b =
    let up = value_order (column_of a.row s.column) (column_of b.row s.column) in
    then_by (if s.descending then ordering_reverse up else up) (sort_order ss a b)

-- inserts an item before the first one that isn't less
abbrev pub put_in : {A : Type 0} → (A → A → Ordering) → A → List A → List A
put_in order x [] = x ∷ []
put_in order x (y ∷ ys) = if is_gt (order x y) then y ∷ put_in order x ys else x ∷ y ∷ ys

-- the list in this order
abbrev pub sorted : {A : Type 0} → (A → A → Ordering) → List A → List A
sorted order [] = []
sorted order (x ∷ xs) = put_in order x (sorted order xs)

-- the rows in ORDER BY order
abbrev pub ordered : List RSort → List Keyed → List Keyed
ordered sorts rows = sorted (sort_order sorts) rows

-- the row at an index from 0 on, none if the index is negative
abbrev pub item_at : List Keyed → ℤ → Option Keyed
item_at rows (pos n) = slice_get rows n
item_at rows (negsuc n) = None

-- where x belongs, by how it compares with y
abbrev pub put_by : Ordering → List Value → List Value → List (List Value) → List (List Value) → List (List Value)
put_by Less x y ys later = x ∷ y ∷ ys
put_by Equal x y ys later = y ∷ ys
put_by Greater x y ys later = y ∷ later

-- inserts a row in order, unless it is there
abbrev pub put_once : List Value → List (List Value) → List (List Value)
put_once x [] = x ∷ []
put_once x (y ∷ ys) = put_by (key_order x y) x y ys (put_once x ys)

-- each row once, in the order of their values
abbrev pub distinct : List (List Value) → List (List Value)
distinct [] = []
distinct (x ∷ xs) = put_once x (distinct xs)

-- the rows with these columns alone
abbrev pub projected : List ℕ → List Keyed → List (List Value)
projected cs rows = map (λ item. columns_of item.row cs) rows

-- the values of a column
abbrev pub column : ℕ → List Keyed → List Value
column c rows = map (λ item. column_of item.row c) rows

-- the sum of numbers
abbrev pub sum_of : List Value → ℤ
sum_of [] = pos 0
sum_of (v ∷ vs) = number v +ℤ sum_of vs

-- the lesser of a value and another one, if there is one
abbrev pub lesser : Value → Option Value → Value
lesser v None = v
lesser v (Some w) = if is_le (value_order v w) then v else w

abbrev pub greater : Value → Option Value → Value
greater v None = v
greater v (Some w) = if is_le (value_order v w) then w else v

abbrev pub least : List Value → Option Value
least [] = None
least (v ∷ vs) = Some (lesser v (least vs))

abbrev pub greatest : List Value → Option Value
greatest [] = None
greatest (v ∷ vs) = Some (greater v (greatest vs))

-- a number as a total
abbrev pub total : ℤ → Result (Option Value) End
total z = then_do (fitted z) (λ v. Ok (Some v))

-- the value of an aggregate; MIN and MAX of no rows have none
abbrev pub aggregate : RAgg → List Keyed → Result (Option Value) End
aggregate CountAll rows = total (pos (length rows))
aggregate (CountDistinct c) rows = total (pos (length (distinct (projected (c ∷ []) rows))))
aggregate (Sum c) rows = total (sum_of (column c rows))
aggregate (Min c) rows = Ok (least (column c rows))
aggregate (Max c) rows = Ok (greatest (column c rows))

-- whether a column of this type can hold the value
abbrev pub fits_kind : ColType → Value → Bool
fits_kind kind.Int v = true
fits_kind (kind.Text n) (Int z) = true
fits_kind (kind.Text n) (Text t) = nat_le (length t) n

-- the value of a column of this type, or a text too long
abbrev pub fit_kind : ColType → Value → Result Value End
fit_kind k v = if fits_kind k v then Ok v else Err TooLong

abbrev pub fit_column : Option Column → Value → Result Value End
fit_column None v = Ok v
fit_column (Some c) v = fit_kind c.kind v

-- the value of the column at a place, or a text too long
abbrev pub fit : List Column → ℕ → Value → Result Value End
fit columns c v = fit_column (slice_get columns c) v
