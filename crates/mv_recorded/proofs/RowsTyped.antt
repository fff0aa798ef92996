-- Rows that have a value of its type for each column keep it.
use Rattle.std.proofs.Common.{◌≡◌, ℕ, zero, suc, ℤ, pos, negsuc, Bool, true, false, List, [], ◌∷◌, Option, Some, None, Result, Ok, Err, refl, sym, subst, ◌∙◌, map, length, slice_get, slice_set, All, IfOk, leb-true, if◌then◌else◌}
use Rattle.std.proofs.lemmas.List.Elements.{All-nil, All-cons, All-head, All-tail, All-map, All-weaker, All-get_or}
use Rattle.std.proofs.lemmas.Option.{get_or_from_slice_get, slice_get_within, same_Some}
use Rattle.std.specs.Prelude.{nat_le, ◌==◌}
use Rattle.std.proofs.lemmas.Result.{IfOk-weaker}
use Rattle.std.specs.List.{AllZip, list_any}
use Rattle.std.specs.Ordering.{is_le}
use Rattle.std.specs.declared.cmp.Ordering.{Ordering}
use Rattle.std.specs.declared.cmp.Ordering.TheVariants.{Less, Equal, Greater}
use Rattle.mv_values.specs.Preds.{meets}
use Rattle.mv_values.specs.declared.pred.Test.{Test}
use Rattle.mv_values.specs.declared.value.Value.{Value}
use Rattle.mv_values.specs.declared.value.Value.TheVariants.{Int, Text}
use Rattle.mv_values.specs.declared.rows.Keyed.{Keyed}
use Rattle.mv_values.specs.declared.schema.ColType.{ColType}
use Rattle.mv_values.specs.declared.schema.ColType.TheVariants as column'
use Rattle.mv_values.specs.declared.schema.Column.{Column}
use Rattle.mv_values.specs.declared.schema.TableInfo.{TableInfo}
use Rattle.mv_values.specs.declared.calls.End.{End}
use Rattle.mv_values.specs.declared.calls.End.TheVariants.{TooLong}
use Rattle.mv_values.specs.Columns.{column_of, columns_of}
use Rattle.mv_values.specs.Order.{value_order, key_order}
use Rattle.mv_catalog.specs.declared.resolved.RExpr.{RExpr}
use Rattle.mv_catalog.specs.declared.resolved.RAgg.{RAgg}
use Rattle.mv_catalog.specs.declared.resolved.RAgg.TheVariants.{CountAll, CountDistinct, Sum, Min, Max}
use Rattle.mv_catalog.specs.declared.resolved.RSetItem.{RSetItem}
use Rattle.mv_catalog.specs.declared.resolved.RSort.{RSort}
use Rattle.mv_values.specs.Tables.{rows_at, Tables}
use Rattle.mv_catalog.specs.Types.{Kind, int, Vars, kind_of_column}
use Rattle.mv_catalog.specs.Statements.{kinds_of, IsOfKind, Takes, IsItem, IsTotal}
use Rattle.mv_catalog.specs.Text.{IsOf, IsRow, types_of}
use Rattle.mv_catalog.proofs.Maps.{map_map}
use Rattle.mv_eval.specs.declared.state.Env.{Env}
use Rattle.mv_eval.specs.Results.{then_do}
use Rattle.mv_eval.specs.Env.{with_value, with_values}
use Rattle.mv_eval.specs.Value.{value_of, fitted}
use Rattle.mv_eval.specs.Rows.{sorted, ordered, sort_order, item_at, put_by, put_once, distinct, projected, column, lesser, least, greater, greatest, total, sum_of, aggregate, fit_kind, fit}
use Rattle.mv_eval.specs.Changes.{with_column, set_row_by, updated, new_row, put_row, put_row_by}
use Rattle.mv_eval.specs.Alone.{fixed, with_selected}
use Rattle.mv_record.specs.Databases.{AreTyped, HasRow}
use Rattle.mv_recorded.specs.Typed.{OfKinds, IsEnvOf}
use Rattle.mv_recorded.proofs.Typing.{fit_value, fit_found}
use Rattle.mv_eval.proofs.Ranking.{put_all}
use Rattle.mv_recorded.proofs.Valued.{IsKind, fitted_kind, value_kind}

-- going on with a value of which something holds
pub then_ok : {A B : Type 0} (r : Result A End) (go : A → Result B End) (P : A → Type 0) (Q : B → Type 0) → IfOk r P → ((x : A) → P x → IfOk (go x) Q) → IfOk (then_do r go) Q
then_ok (Ok x) go P Q p k = k x p
then_ok (Err e) go P Q p k = tt

-- and of which nothing is asked
pub then_any : {A B : Type 0} (r : Result A End) (go : A → Result B End) (Q : B → Type 0) → ((x : A) → IfOk (go x) Q) → IfOk (then_do r go) Q
then_any (Ok x) go Q k = k x
then_any (Err e) go Q k = tt

-- what holds of a value holds of one that is the same where it is there
narrower : (r s : Result Value End) (P : Value → Type 0) → ((w : Value) → r ≡ Ok w → s ≡ Ok w) → IfOk s P → IfOk r P
narrower (Ok x) s P same h = subst (λ q. IfOk q P) (same x refl) h
narrower (Err e) s P same h = tt

pub all_get : {X : Type 0} (P : X → Type 0) (xs : List X) (n : ℕ) (x : X) → All P xs → slice_get xs n ≡ Some x → P x
all_get P xs n x all at = subst P (get_or_from_slice_get xs n x x at) (All-get_or P xs n x (slice_get_within xs n x at) all)

-- Rows

pub kind_is : (type : ColType) (v : Value) → IsOf type v → IsKind (kind_of_column type) v
kind_is column'.Int (Int z) h = refl
kind_is column'.Int (Text t) h = absurd h
kind_is (column'.Text n) (Int z) h = absurd h
kind_is (column'.Text n) (Text t) h = refl

pub row_kinds : (types : List ColType) (row : List Value) → IsRow types row → OfKinds (map kind_of_column types) row
row_kinds [] row h c k at = cc
row_kinds (t ∷ ts) [] h c k at = absurd h
row_kinds (t ∷ ts) (v ∷ vs) h zero k at = kind_is t v h.0 ∙ same_Some (kind_of_column t) k at
row_kinds (t ∷ ts) (v ∷ vs) h (suc c) k at = row_kinds ts vs h.1 c k at

pub table_kinds : (table : TableInfo) (row : List Value) → IsRow (types_of table) row → OfKinds (kinds_of table) row
table_kinds table row h = subst (λ ks. OfKinds ks row) (map_map kind_of_column (λ (c : Column). c.kind) table.columns) (row_kinds (types_of table) row h)

-- the selected columns of a row
chosen_kinds : (ks : List Kind) (cs : List ℕ) (ts : List Kind) (row : List Value) → OfKinds ks row → map (slice_get ks) cs ≡ map Some ts → OfKinds ts (columns_of row cs)
chosen_kinds ks cs [] row typed h c k at = cc
chosen_kinds ks [] (t ∷ ts) row typed h c k at = cc
chosen_kinds ks (n ∷ ns) (t ∷ ts) row typed h zero k at = let first : slice_get ks n ≡ Some t = cc in typed n k (first ∙ at)
chosen_kinds ks (n ∷ ns) (t ∷ ts) row typed h (suc c) k at = let rest : map (slice_get ks) ns ≡ map Some ts = cc in chosen_kinds ks ns ts row typed rest c k at

-- Orders

pub sorted_all : {X : Type 0} (order : X → X → Ordering) (P : X → Type 0) (xs : List X) → All P xs → All P (sorted order xs)
sorted_all order P [] h = All-nil P
sorted_all order P (x ∷ xs) h = put_all order P x (sorted order xs) (sorted_all order P xs (All-tail P x xs h)) (All-head P x xs h)

once_all : (P : List Value → Type 0) (x : List Value) (ys : List (List Value)) → P x → All P ys → All P (put_once x ys)
once_all P x [] p h = All-cons P x [] p h
once_all P x (y ∷ ys) p h = by (key_order x y) (once_all P x ys p (All-tail P y ys h))
  where
    by : (o : Ordering) → All P (put_once x ys) → All P (put_by o x y ys (put_once x ys))
    by Less later = All-cons P x (y ∷ ys) p h
    by Equal later = h
    by Greater later = All-cons P y (put_once x ys) (All-head P y ys h) later

distinct_all : (P : List Value → Type 0) (xs : List (List Value)) → All P xs → All P (distinct xs)
distinct_all P [] h = All-nil P
distinct_all P (x ∷ xs) h = once_all P x (distinct xs) (All-head P x xs h) (distinct_all P xs (All-tail P x xs h))

module _ (table : TableInfo) where
  projected_kinds : (cs : List ℕ) (ts : List Kind) (rows : List Keyed) → map (slice_get (kinds_of table)) cs ≡ map Some ts → All (HasRow table) rows → All (OfKinds ts) (projected cs rows)
  projected_kinds cs ts rows h all =
      All-map (OfKinds ts) (λ (item : Keyed). columns_of item.row cs) rows
      (All-weaker (HasRow table) (λ (item : Keyed). OfKinds ts (columns_of item.row cs))
      (λ item typed. chosen_kinds (kinds_of table) cs ts item.row (table_kinds table item.row typed) h) rows all)

  -- the rows of a loop over a table
  pub fixed_kinds : (once : Bool) (cs : List ℕ) (sorts : List RSort) (ts : List Kind) (rows : List Keyed) → map (slice_get (kinds_of table)) cs ≡ map Some ts → All (HasRow table) rows
      → All (OfKinds ts) (fixed once cs sorts rows)
  fixed_kinds true cs sorts ts rows h all = distinct_all (OfKinds ts) (projected cs rows) (projected_kinds cs ts rows h all)
  fixed_kinds false cs sorts ts rows h all = projected_kinds cs ts (ordered sorts rows) h (sorted_all (sort_order sorts) (HasRow table) rows all)

  -- SELECT INTO
  values_fit : (vars : Vars) (env : Env) (row : List Value) (cs xs : List ℕ) → IsEnvOf vars env → OfKinds (kinds_of table) row → AllZip (Takes vars (kinds_of table)) cs xs
      → IsEnvOf vars (with_values env xs (columns_of row cs))
  values_fit vars env row [] [] fit typed h = fit
  values_fit vars env row [] (x ∷ xs) fit typed h = absurd h
  values_fit vars env row (c ∷ cs) [] fit typed h = absurd h
  values_fit vars env row (c ∷ cs) (x ∷ xs) fit typed h =
      values_fit vars (with_value env x (column_of row c)) row cs xs (fit_value vars env x h.0.0 (column_of row c) fit h.0.2 (typed c h.0.0 h.0.1)) typed h.1

  taken_by : (vars : Vars) (env : Env) (cs xs : List ℕ) (o : Option Keyed) → IsEnvOf vars env → ((item : Keyed) → o ≡ Some item → HasRow table item) → AllZip (Takes vars (kinds_of table)) cs xs
      → IsEnvOf vars (with_selected cs xs o env)
  taken_by vars env cs xs None fit has h = fit_found vars env false fit
  taken_by vars env cs xs (Some item) fit has h =
      fit_found vars (with_values env xs (columns_of item.row cs)) true (values_fit vars env item.row cs xs fit (table_kinds table item.row (has item refl)) h)

  item_all : (rows : List Keyed) (z : ℤ) (item : Keyed) → All (HasRow table) rows → item_at rows z ≡ Some item → HasRow table item
  item_all rows (pos n) item all h = all_get (HasRow table) rows n item all h
  item_all rows (negsuc n) item all h = cc

  pub taken_fits : (vars : Vars) (env : Env) (cs xs : List ℕ) (sorts : List RSort) (rows : List Keyed) (z : ℤ) → IsEnvOf vars env → All (HasRow table) rows → AllZip (Takes vars (kinds_of table)) cs xs
      → IsEnvOf vars (with_selected cs xs (item_at (ordered sorts rows) z) env)
  taken_fits vars env cs xs sorts rows z fit all h =
      taken_by vars env cs xs (item_at (ordered sorts rows) z) fit (λ item. item_all (ordered sorts rows) z item (sorted_all (sort_order sorts) (HasRow table) rows all)) h

-- Totals

abbrev pub MayHave : Kind → Option Value → Type 0
MayHave k None = Unit {0}
MayHave k (Some v) = IsKind k v

total_kind : (z : ℤ) → IfOk (total z) (MayHave int)
total_kind z = then_ok (fitted z) (λ v. Ok (Some v)) (IsKind int) (MayHave int) (fitted_kind z) (λ v h. h)

lesser_kind : (k : Kind) (v : Value) (o : Option Value) → IsKind k v → MayHave k o → IsKind k (lesser v o)
lesser_kind k v None p h = p
lesser_kind k v (Some w) p h = by (is_le (value_order v w))
  where
    by : (b : Bool) → IsKind k (if b then v else w)
    by true = p
    by false = h

greater_kind : (k : Kind) (v : Value) (o : Option Value) → IsKind k v → MayHave k o → IsKind k (greater v o)
greater_kind k v None p h = p
greater_kind k v (Some w) p h = by (is_le (value_order v w))
  where
    by : (b : Bool) → IsKind k (if b then w else v)
    by true = h
    by false = p

least_kind : (k : Kind) (vs : List Value) → All (IsKind k) vs → MayHave k (least vs)
least_kind k [] h = tt
least_kind k (v ∷ vs) h = lesser_kind k v (least vs) (All-head (IsKind k) v vs h) (least_kind k vs (All-tail (IsKind k) v vs h))

greatest_kind : (k : Kind) (vs : List Value) → All (IsKind k) vs → MayHave k (greatest vs)
greatest_kind k [] h = tt
greatest_kind k (v ∷ vs) h = greater_kind k v (greatest vs) (All-head (IsKind k) v vs h) (greatest_kind k vs (All-tail (IsKind k) v vs h))

module _ (table : TableInfo) (rows : List Keyed) (all : All (HasRow table) rows) where
  column_kind : (c : ℕ) (k : Kind) → slice_get (kinds_of table) c ≡ Some k → All (IsKind k) (column c rows)
  column_kind c k at =
      All-map (IsKind k) (λ (item : Keyed). column_of item.row c) rows
      (All-weaker (HasRow table) (λ (item : Keyed). IsKind k (column_of item.row c)) (λ item typed. table_kinds table item.row typed c k at) rows all)

  pub aggregate_kind : (agg : RAgg) (k : Kind) → IsTotal (kinds_of table) agg k → IfOk (aggregate agg rows) (MayHave k)
  aggregate_kind CountAll k h = subst (λ t. IfOk (aggregate CountAll rows) (MayHave t)) (sym h) (total_kind (pos (length rows)))
  aggregate_kind (CountDistinct c) k h = subst (λ t. IfOk (aggregate (CountDistinct c) rows) (MayHave t)) (sym h.0) (total_kind (pos (length (distinct (projected (c ∷ []) rows)))))
  aggregate_kind (Sum c) k h = subst (λ t. IfOk (aggregate (Sum c) rows) (MayHave t)) (sym h.0) (total_kind (sum_of (column c rows)))
  aggregate_kind (Min c) k h = least_kind k (column c rows) (column_kind c k h)
  aggregate_kind (Max c) k h = greatest_kind k (column c rows) (column_kind c k h)

-- Values for columns

fit_kind_is : (type : ColType) (v : Value) → IsKind (kind_of_column type) v → IfOk (fit_kind type v) (IsOf type)
fit_kind_is column'.Int (Int z) h = tt
fit_kind_is column'.Int (Text t) h = cc
fit_kind_is (column'.Text n) (Int z) h = cc
fit_kind_is (column'.Text n) (Text t) h = by (nat_le (length t) n) refl
  where
    by : (b : Bool) → nat_le (length t) n ≡ b → IfOk {E = End} (if b then Ok (Text t) else Err TooLong) (IsOf (column'.Text n))
    by true e = leb-true (length t) n e
    by false e = tt

-- a value that the column at a place may have
record Suited (columns : List Column) (c : ℕ) (v : Value) : Type 0 where
  type : ColType
  at : slice_get (map (λ (x : Column). x.kind) columns) c ≡ Some type
  is : IsOf type v

fit_is : (columns : List Column) (c : ℕ) (k : Kind) (v : Value) → slice_get (map (λ (x : Column). kind_of_column x.kind) columns) c ≡ Some k → IsKind k v
    → IfOk (fit columns c v) (Suited columns c)
fit_is [] c k v at h = cc
fit_is (x ∷ xs) zero k v at h =
    IfOk-weaker (fit_kind x.kind v) (IsOf x.kind) (Suited (x ∷ xs) zero) (λ w is. record { type = x.kind; at = refl; is = is })
    (fit_kind_is x.kind v (h ∙ sym (same_Some (kind_of_column x.kind) k at)))
fit_is (x ∷ xs) (suc c) k v at h =
    IfOk-weaker (fit xs c v) (Suited xs c) (Suited (x ∷ xs) (suc c)) (λ w s. record { type = s.type; at = s.at; is = s.is }) (fit_is xs c k v at h)

cell_set : (types : List ColType) (row : List Value) (c : ℕ) (type : ColType) (v : Value) → IsRow types row → slice_get types c ≡ Some type → IsOf type v → IsRow types (slice_set row c v)
cell_set [] [] c type v h at is = tt
cell_set [] (w ∷ ws) c type v h at is = absurd h
cell_set (t ∷ ts) [] c type v h at is = absurd h
cell_set (t ∷ ts) (w ∷ ws) zero type v h at is = (subst (λ u. IsOf u v) (sym (same_Some t type at)) is, h.1)
cell_set (t ∷ ts) (w ∷ ws) (suc c) type v h at is = (h.0, cell_set ts ws c type v h.1 at is)

column_set : (columns : List Column) (keys : List ℕ) (c : ℕ) (v : Value) (row : List Value) → IsRow (map (λ (x : Column). x.kind) columns) row → Suited columns c v
    → IsRow (map (λ (x : Column). x.kind) columns) (with_column keys c v row)
column_set columns keys c v row h s = by (list_any (λ k. k == c) keys)
  where
    by : (b : Bool) → IsRow (map (λ (x : Column). x.kind) columns) (if b then row else slice_set row c v)
    by true = h
    by false = cell_set (map (λ (x : Column). x.kind) columns) row c s.type v h s.at s.is

module _ (vars : Vars) (env : Env) (fit' : IsEnvOf vars env) where
  no_columns : OfKinds [] []
  no_columns c k at = cc

  -- the value of an expression in which no column stands
  pub gives_kind : (e : RExpr) (k : Kind) → IsOfKind vars k e → IfOk (value_of e env []) (IsKind k)
  gives_kind e k h = value_kind vars [] env [] fit' no_columns e k h

  -- INSERT
  pub new_row_is : (columns : List Column) (es : List RExpr) → AllZip (IsOfKind vars) (map (λ (c : Column). kind_of_column c.kind) columns) es
      → IfOk (new_row columns es env) (IsRow (map (λ (c : Column). c.kind) columns))
  new_row_is [] es h = tt
  new_row_is (c ∷ cs) [] h = absurd h
  new_row_is (c ∷ cs) (e ∷ es) h =
      let k = kind_of_column c.kind in
      let types = map (λ (c : Column). c.kind) cs in
      let later = new_row_is cs es h.1 in
      then_ok (value_of e env []) (λ v. then_do (fit_kind c.kind v) (λ w. then_do (new_row cs es env) (λ vs. Ok (w ∷ vs)))) (IsKind k) (IsRow (c.kind ∷ types)) (gives_kind e k h.0)
      (λ v is. then_ok (fit_kind c.kind v) (λ w. then_do (new_row cs es env) (λ vs. Ok (w ∷ vs))) (IsOf c.kind) (IsRow (c.kind ∷ types)) (fit_kind_is c.kind v is)
      (λ w of. then_ok (new_row cs es env) (λ vs. Ok (w ∷ vs)) (IsRow types) (IsRow (c.kind ∷ types)) later (λ vs row. (of, row))))

  -- UPDATE
  pub set_row_is : (table : TableInfo) (fits : ℕ → Value → Result Value End) (keys : List ℕ) (was : List Value) (items : List RSetItem) (row : List Value) → ((c : ℕ) (v w : Value) → fits c v ≡ Ok w → fit table.columns c v ≡ Ok w)
      → IsRow (types_of table) was → All (IsItem vars table) items → IsRow (types_of table) row → IfOk (set_row_by fits keys env was items row) (IsRow (types_of table))
  set_row_is table fits keys was [] row same typed all h = h
  set_row_is table fits keys was (i ∷ is) row same typed all h =
      let item = All-head (IsItem vars table) i is all in
      let go : Value → Result (List Value) End = λ w. set_row_by fits keys env was is (with_column keys i.column w row) in
      then_ok (value_of i.right env was) (λ v. then_do (fits i.column v) go) (IsKind item.0) (IsRow (types_of table))
      (value_kind vars (kinds_of table) env was fit' (table_kinds table was typed) i.right item.0 item.3)
      (λ v is_kind. then_ok (fits i.column v) go (Suited table.columns i.column) (IsRow (types_of table)) (narrower (fits i.column v) (fit table.columns i.column v) (Suited table.columns i.column) (same i.column v) (fit_is table.columns i.column item.0 v item.1 is_kind))
      (λ w s. set_row_is table fits keys was is (with_column keys i.column w row) same typed (All-tail (IsItem vars table) i is all) (column_set table.columns keys i.column w row h s)))

-- Tables

module _ (table : TableInfo) where
  pub updated_all : (new : List Value → Result (List Value) End) (tests : List Test) → ((row : List Value) → IsRow (types_of table) row → IfOk (new row) (IsRow (types_of table)))
      → (items : List Keyed) → All (HasRow table) items → IfOk (updated new tests items) (All (HasRow table))
  updated_all new tests keeps [] all = All-nil (HasRow table)
  updated_all new tests keeps (item ∷ items) all = by (meets tests item.row) (updated_all new tests keeps items (All-tail (HasRow table) item items all))
    where
      first : HasRow table item
      first = All-head (HasRow table) item items all

      behind : (head : Keyed) → HasRow table head → IfOk (updated new tests items) (All (HasRow table)) → IfOk (then_do (updated new tests items) (λ rest. Ok (head ∷ rest))) (All (HasRow table))
      behind head p later =
          then_ok (updated new tests items) (λ rest. Ok (head ∷ rest)) (All (HasRow table)) (All (HasRow table)) later (λ rest h. All-cons (HasRow table) head rest p h)

      by : (b : Bool) → IfOk (updated new tests items) (All (HasRow table))
          → IfOk (if b then then_do (new item.row) (λ row. then_do (updated new tests items) (λ rest. Ok (record item { row = row } ∷ rest))) else then_do (updated new tests items) (λ rest. Ok (item ∷ rest)))
          (All (HasRow table))
      by true later =
          then_ok (new item.row) (λ row. then_do (updated new tests items) (λ rest. Ok (record item { row = row } ∷ rest))) (IsRow (types_of table)) (All (HasRow table)) (keeps item.row first)
          (λ row h. behind (record item { row = row }) h later)
      by false later = behind item first later

  pub put_row_all : (new : Keyed) (rows : List Keyed) → HasRow table new → All (HasRow table) rows → IfOk (put_row new rows) (All (HasRow table))
  put_row_all new [] p all = All-cons (HasRow table) new [] p all
  put_row_all new (item ∷ items) p all = by (key_order new.key item.key) (put_row_all new items p (All-tail (HasRow table) item items all))
    where
      by : (o : Ordering) → IfOk (put_row new items) (All (HasRow table)) → IfOk (put_row_by o new item items (put_row new items)) (All (HasRow table))
      by Less later = All-cons (HasRow table) new (item ∷ items) p all
      by Equal later = tt
      by Greater later =
          then_ok (put_row new items) (λ rest. Ok (item ∷ rest)) (All (HasRow table)) (All (HasRow table)) later
          (λ rest h. All-cons (HasRow table) item rest (All-head (HasRow table) item items all) h)

pub rows_typed : (tables : List TableInfo) (db : Tables) (n : ℕ) (table : TableInfo) → AreTyped tables db → slice_get tables n ≡ Some table → All (HasRow table) (rows_at db n)
rows_typed [] db n table h at = cc
rows_typed (t ∷ ts) [] n table h at = absurd h
rows_typed (t ∷ ts) (rows ∷ db) zero table h at = subst (λ u. All (HasRow u) rows) (same_Some t table at) h.0
rows_typed (t ∷ ts) (rows ∷ db) (suc n) table h at = rows_typed ts db n table h.1 at

pub tables_set : (tables : List TableInfo) (db : Tables) (n : ℕ) (table : TableInfo) (rows : List Keyed) → AreTyped tables db → slice_get tables n ≡ Some table → All (HasRow table) rows
    → AreTyped tables (slice_set db n rows)
tables_set [] db n table rows h at all = cc
tables_set (t ∷ ts) [] n table rows h at all = absurd h
tables_set (t ∷ ts) (r ∷ db) zero table rows h at all = (subst (λ u. All (HasRow u) rows) (sym (same_Some t table at)) all, h.1)
tables_set (t ∷ ts) (r ∷ db) (suc n) table rows h at all = (h.0, tables_set ts db n table rows h.1 at all)
