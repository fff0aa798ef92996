-- Rows that are looked up by their keys.
use Rattle.std.proofs.Common.{◌≡◌, ◌≤◌, ◌+◌, ℕ, zero, suc, Bool, true, false, cond, List, [], ◌∷◌, ◌++◌, Option, Some, None, All, length, slice_index_or, refl, sym, ap, subst, ◌∙◌, arith, append_assoc, length-append}
use Rattle.std.specs.Prelude.{◌&&◌, not, Contains}
use Rattle.std.specs.List.{filter, list_all}
use Rattle.std.specs.Option.{OnSome, is_some}
use Rattle.std.specs.Ordering.{is_eq}
use Rattle.std.specs.declared.cmp.Ordering.{Ordering}
use Rattle.std.specs.declared.cmp.Ordering.TheVariants.{Less, Equal, Greater}
use Rattle.std.proofs.lemmas.Bool.{both_ways, and_parts}
use Rattle.std.proofs.lemmas.List.{append-nil}
use Rattle.std.proofs.lemmas.List.Kept.{AllPairs-filter}
use Rattle.mv_values.specs.declared.value.Value.{Value}
use Rattle.mv_values.specs.declared.rows.Keyed.{Keyed}
use Rattle.mv_values.specs.declared.op.Op.{Op}
use Rattle.mv_values.specs.declared.op.Op.TheVariants.{Eq, Ne, Lt, Le, Gt, Ge}
use Rattle.mv_values.specs.declared.pred.Test.{Test}
use Rattle.mv_values.specs.declared.pred.Pred.{Pred}
use Rattle.mv_values.specs.Columns.{column_of}
use Rattle.mv_values.specs.Comparing.{op_holds}
use Rattle.mv_values.specs.Keys.{IsRising, IsBelow}
use Rattle.mv_values.specs.Order.{value_order, key_order}
use Rattle.mv_values.specs.Patching.{row_of, standing, found_by}
use Rattle.mv_values.specs.Preds.{matches, matched, passes}
use Rattle.mv_values.specs.Tables.{rows_at}
use Rattle.mv_values.specs.Testing.{is_equality}
use Rattle.mv_values.proofs.KeyOrder.{exact_keys, tied}
use Rattle.mv_table.specs.declared.span.Span.{Span}
use Rattle.mv_table.specs.declared.scan.Direction.{Direction}
use Rattle.mv_table.specs.declared.scan.Direction.TheVariants.{Forward, Backward}
use Rattle.mv_table.specs.Entries.{item_of, KeysRise}
use Rattle.mv_table.specs.Scans.{foremost, with_foremost}
use Rattle.mv_table.specs.Spans.{is_within, CoversAdmitted}
use Rattle.mv_table.proofs.Picking.{Above as Under, Rise, rise_from}
use Rattle.mv_table.proofs.Scanning.{foremost_kept, foremost_passed, foremost_none}
use Rattle.mv_table.proofs.Storing.{front_below}
use Rattle.mv_table.proofs.Whole.{only_under}
use Rattle.mv_record.specs.Admitting.{Admitted}
use Rattle.mv_record.proofs.Rising.{Above, Rises, rises_from, row_here, row_later, row_below, same_rows, found_stands, filter_rises, matching_row}
use Rattle.mv_view.specs.Narrowing.{matching, outside}
use Rattle.mv_index.specs.Forms.{KeyList}
use Rattle.mv_index.specs.Indexing.{Contents, CoversRows, IsOnlyKey, HaveKeys, IsOnly, AreFewest, is_indexed, keys_under, stands, lens_of, is_known}
use Rattle.mv_index.specs.declared.lens.KeyLens.{KeyLens}
use Rattle.mv_index.proofs.Values.{same_value}
use Rattle.mv_index.proofs.Forms.{no_item, an_item, same}

-- the row under a key, where the predicate matches it
abbrev pub found_at : Pred → List Keyed → List Value → Option (List Value)
found_at pred rows key = matched pred (row_of rows key)

-- the rows under these keys
abbrev pub found_under : Pred → List Keyed → KeyList → List Keyed
found_under pred rows [] = []
found_under pred rows (e ∷ es) = standing e.0 (found_at pred rows e.0) ++ found_under pred rows es

module _ (pred : Pred) (rows : List Keyed) where
  above_found : (key : List Value) (es : KeyList) → Under key es → Above key (found_under pred rows es)
  above_found key [] h = tt
  above_found key (e ∷ es) h = by (found_at pred rows e.0) (above_found key es h.1)
    where
      by : (o : Option (List Value)) → Above key (found_under pred rows es) → Above key (standing e.0 o ++ found_under pred rows es)
      by None more = more
      by (Some row) more = (h.0, more)

  rises_found : (es : KeyList) → Rise es → Rises (found_under pred rows es)
  rises_found [] h = tt
  rises_found (e ∷ es) h = by (found_at pred rows e.0) (rises_found es h.1)
    where
      by : (o : Option (List Value)) → Rises (found_under pred rows es) → Rises (standing e.0 o ++ found_under pred rows es)
      by None more = more
      by (Some row) more = (above_found e.0 es h.0, more)

  -- the row that is found under a key, if it is one of these
  row_found : (es : KeyList) (key : List Value) → Rise es → row_of (found_under pred rows es) key ≡ cond (is_some (item_of es key)) (found_at pred rows key) None
  row_found [] key h = refl
  row_found (e ∷ es) key h = by (key_order e.0 key) refl (row_found es key h.1)
    where
      past : (o : Option (List Value)) → is_eq (key_order e.0 key) ≡ false → row_of (standing e.0 o ++ found_under pred rows es) key ≡ row_of (found_under pred rows es) key
      past None n = refl
      past (Some row) n = row_later (record { key = e.0; row = row }) (found_under pred rows es) key n

      here : (o : Option (List Value)) → key_order e.0 key ≡ Equal → row_of (standing e.0 o ++ found_under pred rows es) key ≡ o
      here None is = row_below key (found_under pred rows es) (above_found key es (subst (λ k. Under k es) (exact_keys e.0 key is) h.0))
      here (Some row) is = row_here (record { key = e.0; row = row }) (found_under pred rows es) key is

      other : is_eq (key_order e.0 key) ≡ false → row_of (found_under pred rows es) key ≡ cond (is_some (item_of es key)) (found_at pred rows key) None
          → row_of (found_under pred rows (e ∷ es)) key ≡ cond (is_some (item_of (e ∷ es) key)) (found_at pred rows key) None
      other n more = past (found_at pred rows e.0) n ∙ (more ∙ ap (λ b. cond (is_some (cond b (Some e.1) (item_of es key))) (found_at pred rows key) None) (sym n))

      by : (o : Ordering) → key_order e.0 key ≡ o → row_of (found_under pred rows es) key ≡ cond (is_some (item_of es key)) (found_at pred rows key) None
          → row_of (found_under pred rows (e ∷ es)) key ≡ cond (is_some (item_of (e ∷ es) key)) (found_at pred rows key) None
      by Less is more = other (ap is_eq is) more
      by Greater is more = other (ap is_eq is) more
      by Equal is more =
          here (found_at pred rows e.0) is
          ∙ (ap (found_at pred rows) (exact_keys e.0 key is) ∙ ap (λ b. cond (is_some (cond b (Some e.1) (item_of es key))) (found_at pred rows key) None) (sym (ap is_eq is)))

  -- no row that matches stands under another key
  unlisted : (es : KeyList) (key : List Value) → HaveKeys pred es rows → is_some (item_of es key) ≡ false → found_at pred rows key ≡ None
  unlisted es key h not' = by (row_of rows key) refl
    where
      some : (row : List Value) → row_of rows key ≡ Some row → (b : Bool) → matches pred row ≡ b → cond b (Some row) None ≡ None
      some row is false e = refl
      some row is true e =
          let at = found_stands rows key row is in
          let item : Keyed = record { key = key; row = row } in
          let fits : matches pred (slice_index_or rows at.0 item).row ≡ true = ap (λ (i : Keyed). matches pred i.row) at.2 ∙ e in
          let listed : is_some (item_of es key) ≡ true = ap (λ (i : Keyed). is_some (item_of es i.key)) (sym at.2) ∙ h at.0 item at.1 fits in
          absurd (both_ways (is_some (item_of es key)) not' listed)

      by : (o : Option (List Value)) → row_of rows key ≡ o → matched pred o ≡ None
      by None is = refl
      by (Some row) is = some row is (matches pred row) refl

  -- the rows under keys, among which are those of all rows that match, are all that match
  pub all_found : (es : KeyList) → KeysRise es → IsRising rows → HaveKeys pred es rows → found_under pred rows es ≡ matching pred rows
  all_found es rise rising h =
      let up = rises_from rows rising in
      same_rows (found_under pred rows es) (matching pred rows) (rises_found es (rise_from es rise)) (filter_rises (λ item. matches pred item.row) rows up)
      (λ key. row_found es key (rise_from es rise) ∙ (by key (is_some (item_of es key)) refl ∙ sym (matching_row pred rows key up)))
    where
      by : (key : List Value) (b : Bool) → is_some (item_of es key) ≡ b → cond b (found_at pred rows key) None ≡ found_at pred rows key
      by key true e = refl
      by key false e = sym (unlisted es key h e)

  -- where no key has the rows that match, there are none
  pub none_found : IsRising rows → HaveKeys pred [] rows → matching pred rows ≡ []
  none_found rising h = sym (all_found [] (λ i j d lt end. absurd (omega (arith, end))) rising h)

  -- where one key has them all, it is the only one
  pub only_of : (key : List Value) → HaveKeys pred ((key, tt) ∷ []) rows → IsOnlyKey pred key rows
  only_of key h k d lt fits = sym (same key (slice_index_or rows k d).key (by (is_eq (key_order key (slice_index_or rows k d).key)) (h k d lt fits)))
    where
      by : (b : Bool) → is_some (cond b an_item None) ≡ true → b ≡ true
      by true e = refl
      by false e = cc

  -- One row more

  pub rows_more : (found : List Keyed) (e : List Value × Unit {0}) (es : KeyList) (row : Option (List Value)) (all : List Keyed) → row ≡ found_at pred rows e.0 → found ++ found_under pred rows (e ∷ es) ≡ all
      → (found ++ standing e.0 row) ++ found_under pred rows es ≡ all
  rows_more found e es row all is h = append_assoc found (standing e.0 row) (found_under pred rows es) ∙ (ap (λ o. found ++ (standing e.0 o ++ found_under pred rows es)) is ∙ h)

  pub rows_below : (found : List Keyed) (e : List Value × Unit {0}) (es : KeyList) (row : Option (List Value)) (all : List Keyed) → row ≡ found_at pred rows e.0 → found ++ found_under pred rows (e ∷ es) ≡ all → IsRising all
      → OnSome row (All (IsBelow e.0) found)
  rows_below found e es row all is h rising = by row (ap (λ o. found ++ (standing e.0 o ++ found_under pred rows es)) is ∙ h)
    where
      by : (o : Option (List Value)) → found ++ (standing e.0 o ++ found_under pred rows es) ≡ all → OnSome o (All (IsBelow e.0) found)
      by None same = tt
      by (Some r) same = front_below found (found_under pred rows es) (record { key = e.0; row = r }) (subst IsRising (sym same) rising)

  -- The first of a scan

  both_found : (xs ys : KeyList) → found_under pred rows (xs ++ ys) ≡ found_under pred rows xs ++ found_under pred rows ys
  both_found [] ys = refl
  both_found (x ∷ xs) ys = ap (λ l. standing x.0 (found_at pred rows x.0) ++ l) (both_found xs ys) ∙ sym (append_assoc (standing x.0 (found_at pred rows x.0)) (found_under pred rows xs) (found_under pred rows ys))

  found_first : (d : Direction) (e : List Value × Unit {0}) (es : KeyList) (row : List Value) → found_at pred rows e.0 ≡ Some row → found_under pred rows (with_foremost d e es) ≡ with_foremost d (record { key = e.0; row = row }) (found_under pred rows es)
  found_first Forward e es row is = ap (λ o. standing e.0 o ++ found_under pred rows es) is
  found_first Backward e es row is = both_found es (e ∷ []) ∙ ap (λ o. found_under pred rows es ++ (standing e.0 o ++ [])) is

  none_first : (d : Direction) (e : List Value × Unit {0}) (es : KeyList) → found_at pred rows e.0 ≡ None → found_under pred rows (with_foremost d e es) ≡ found_under pred rows es
  none_first Forward e es is = ap (λ o. standing e.0 o ++ found_under pred rows es) is
  none_first Backward e es is = both_found es (e ∷ []) ∙ (ap (λ o. found_under pred rows es ++ (standing e.0 o ++ [])) is ∙ append-nil (found_under pred rows es))

  module _ (has : List Value → Bool) where
    -- a row that is found and not passed over is the first
    pub first_there : (d : Direction) (e : List Value × Unit {0}) (left es : KeyList) (row : List Value) (all : Option Keyed) → left ≡ with_foremost d e es → has e.0 ≡ false → found_at pred rows e.0 ≡ Some row
        → foremost d (outside has (found_under pred rows left)) ≡ all → Some (record { key = e.0; row = row }) ≡ all
    first_there d e left es row all is out found so =
        sym (ap (λ l. foremost d (outside has (found_under pred rows l))) is ∙ (ap (λ l. foremost d (outside has l)) (found_first d e es row found) ∙ foremost_kept (λ item. not (has item.key)) d (record { key = e.0; row = row }) (found_under pred rows es) (ap not out)))
        ∙ so

    pub first_later : (d : Direction) (e : List Value × Unit {0}) (left es : KeyList) (all : Option Keyed) → left ≡ with_foremost d e es → found_at pred rows e.0 ≡ None → foremost d (outside has (found_under pred rows left)) ≡ all
        → foremost d (outside has (found_under pred rows es)) ≡ all
    first_later d e left es all is none so = sym (ap (λ l. foremost d (outside has (found_under pred rows l))) is ∙ ap (λ l. foremost d (outside has l)) (none_first d e es none)) ∙ so

    pub first_passed : (d : Direction) (e : List Value × Unit {0}) (left es : KeyList) (all : Option Keyed) → left ≡ with_foremost d e es → has e.0 ≡ true → foremost d (outside has (found_under pred rows left)) ≡ all
        → foremost d (outside has (found_under pred rows es)) ≡ all
    first_passed d e left es all is in' so = by (found_at pred rows e.0) refl
      where
        by : (o : Option (List Value)) → found_at pred rows e.0 ≡ o → foremost d (outside has (found_under pred rows es)) ≡ all
        by None none = first_later d e left es all is none so
        by (Some row) found =
            sym (ap (λ l. foremost d (outside has (found_under pred rows l))) is ∙ (ap (λ l. foremost d (outside has l)) (found_first d e es row found) ∙ foremost_passed (λ item. not (has item.key)) d (record { key = e.0; row = row }) (found_under pred rows es) (ap not in')))
            ∙ so

    -- nothing is left
    pub none_first_left : (d : Direction) (left : KeyList) (all : Option Keyed) → left ≡ [] → foremost d (outside has (found_under pred rows left)) ≡ all → None ≡ all
    none_first_left d left all is so = sym (ap (λ l. foremost d (outside has (found_under pred rows l))) is ∙ foremost_none d) ∙ so

  -- One key alone

  -- the row under the only key is all that is found
  pub alone_found : (key : List Value) → IsRising rows → IsOnlyKey pred key rows → matching pred rows ≡ standing key (found_at pred rows key)
  alone_found key rising h = only_under (λ item. matches pred item.row) key rows rising h ∙ by (row_of rows key)
    where
      by : (o : Option (List Value)) → matching pred (standing key o) ≡ standing key (matched pred o)
      by None = refl
      by (Some row) = here (matches pred row)
        where
          here : (b : Bool) → cond b (record { key = key; row = row } ∷ []) [] ≡ standing key (cond b (Some row) None)
          here true = refl
          here false = refl

  pub alone_passed : (has : List Value → Bool) (key : List Value) (d : Direction) → IsRising rows → IsOnlyKey pred key rows → has key ≡ true → None ≡ foremost d (outside has (matching pred rows))
  alone_passed has key d rising h in' = sym (ap (λ l. foremost d (outside has l)) (alone_found key rising h) ∙ by (found_at pred rows key))
    where
      by : (o : Option (List Value)) → foremost d (outside has (standing key o)) ≡ None
      by None = foremost_none d
      by (Some row) = ap (λ b. foremost d (cond (not b) (record { key = key; row = row } ∷ []) [])) in' ∙ foremost_none d

  pub alone_first : (has : List Value → Bool) (key row : List Value) (d : Direction) → IsRising rows → IsOnlyKey pred key rows → has key ≡ false → found_at pred rows key ≡ Some row
      → Some (record { key = key; row = row }) ≡ foremost d (outside has (matching pred rows))
  alone_first has key row d rising h out found =
      sym (ap (λ l. foremost d (outside has l)) (alone_found key rising h ∙ ap (standing key) found) ∙ (ap (λ b. foremost d (cond (not b) (record { key = key; row = row } ∷ []) [])) out ∙ first d))
    where
      first : (way : Direction) → foremost {A = Keyed} way (record { key = key; row = row } ∷ []) ≡ Some (record { key = key; row = row })
      first Forward = refl
      first Backward = refl

  pub alone_none : (has : List Value → Bool) (key : List Value) (d : Direction) → IsRising rows → IsOnlyKey pred key rows → found_at pred rows key ≡ None → None ≡ foremost d (outside has (matching pred rows))
  alone_none has key d rising h none = sym (ap (λ l. foremost d (outside has l)) (alone_found key rising h ∙ ap (standing key) none) ∙ foremost_none d)

pub none_before : (key : List Value) (row : Option (List Value)) → OnSome row (All (IsBelow key) [])
none_before key None = tt
none_before key (Some row) = λ k d lt. absurd (omega (arith, lt))

pub one_more_left : (d : Direction) (e : List Value × Unit {0}) (left es : KeyList) → left ≡ with_foremost d e es → length left ≡ length es + 1
one_more_left Forward e left es is = ap length is ∙ omega arith
one_more_left Backward e left es is = ap length is ∙ (length-append es (e ∷ []) ∙ omega arith)

-- Keys in a span

none_either : (b : Bool) → no_item ≡ cond b no_item no_item
none_either true = refl
none_either false = refl

item_filter : (p : List Value → Bool) (es : KeyList) (key : List Value) → item_of (filter (λ e. p e.0) es) key ≡ cond (p key) (item_of es key) None
item_filter p [] key = none_either (p key)
item_filter p (e ∷ es) key = by (p e.0) refl (is_eq (key_order e.0 key)) refl (item_filter p es key)
  where
    same : is_eq (key_order e.0 key) ≡ true → p e.0 ≡ p key
    same h = ap p (tied e.0 key h)

    by : (b : Bool) → p e.0 ≡ b → (s : Bool) → is_eq (key_order e.0 key) ≡ s → item_of (filter (λ x. p x.0) es) key ≡ cond (p key) (item_of es key) None
        → item_of (cond b (e ∷ filter (λ x. p x.0) es) (filter (λ x. p x.0) es)) key ≡ cond (p key) (cond s (Some e.1) (item_of es key)) None
    by true is true h more =
        ap (λ s. cond s (Some e.1) (item_of (filter (λ x. p x.0) es) key)) h ∙ ap (λ b. cond b (Some e.1) None) (sym (sym (same h) ∙ is))
    by true is false h more = ap (λ s. cond s (Some e.1) (item_of (filter (λ x. p x.0) es) key)) h ∙ more
    by false is true h more = more ∙ (ap (λ b. cond b (item_of es key) None) (sym (same h) ∙ is) ∙ ap (λ b. cond b (Some e.1) None) (sym (sym (same h) ∙ is)))
    by false is false h more = more

pub keys_within : (pred : Pred) (rows : List Keyed) (es : KeyList) (span : Span) → CoversAdmitted pred.tests span → Admitted pred rows → HaveKeys pred es rows → HaveKeys pred (filter (λ e. is_within span e.0) es) rows
keys_within pred rows es span covers admitted h k d lt fits =
    let key = (slice_index_or rows k d).key in
    let within : is_within span key ≡ true = covers key (admitted k d lt fits) in
    ap is_some (item_filter (is_within span) es key) ∙ (ap (λ b. is_some (cond b (item_of es key) None)) within ∙ h k d lt fits)

pub within_rise : (span : Span) (es : KeyList) → KeysRise es → KeysRise (filter (λ e. is_within span e.0) es)
within_rise span es h = AllPairs-filter (λ a b. key_order a.0 b.0 ≡ Less) (λ e. is_within span e.0) es h

pub fewer_within : (span : Span) (es : KeyList) → length (filter (λ e. is_within span e.0) es) ≤ length es
fewer_within span [] = omega arith
fewer_within span (e ∷ es) = by (is_within span e.0) (fewer_within span es)
  where
    by : (b : Bool) → length (filter (λ x. is_within span x.0) es) ≤ length es → length (cond b (e ∷ filter (λ x. is_within span x.0) es) (filter (λ x. is_within span x.0) es)) ≤ length (e ∷ es)
    by true h = omega (arith, h)
    by false h = omega (arith, h)

-- What an index knows of rows that match

-- a table that has had no row has none
pub no_rows : (index : Contents) (db : List (List Keyed)) (t : ℕ) → CoversRows index t (rows_at db t) → is_some (lens_of index t) ≡ false → rows_at db t ≡ []
no_rows index db t covers none = by (rows_at db t) covers.lens
  where
    unknown : (o : Option KeyLens) (len : ℕ) → is_some o ≡ false → is_known o len ≡ false
    unknown None len h = refl
    unknown (Some lens) len h = cc

    by : (rows : List Keyed) → All (λ item. is_known (lens_of index t) (length item.key) ≡ true) rows → rows ≡ []
    by [] h = refl
    by (item ∷ rows) h = absurd (both_ways (is_known (lens_of index t) (length item.key)) (unknown (lens_of index t) (length item.key) none) (h 0 item (omega arith)))

pub nothing_found : (index : Contents) (pred : Pred) (db : List (List Keyed)) → CoversRows index pred.table (rows_at db pred.table) → is_some (lens_of index pred.table) ≡ false → found_by pred db ≡ []
nothing_found index pred db covers none = ap (matching pred) (no_rows index db pred.table covers none)

pub nothing_foremost : (index : Contents) (pred : Pred) (db : List (List Keyed)) (has : List Value → Bool) (d : Direction) → CoversRows index pred.table (rows_at db pred.table) → is_some (lens_of index pred.table) ≡ false → None ≡ foremost d (outside has (found_by pred db))
nothing_foremost index pred db has d covers none = sym (ap (λ rows. foremost d (outside has rows)) (nothing_found index pred db covers none) ∙ foremost_none d)

-- one key is all where the tests give it whole
pub only_key : (index : Contents) (pred : Pred) (key : List Value) (db : List (List Keyed)) → CoversRows index pred.table (rows_at db pred.table) → Admitted pred (rows_at db pred.table) → IsOnly index pred key → IsOnlyKey pred key (rows_at db pred.table)
only_key index pred key db covers admitted only k d lt fits =
    let item = slice_index_or (rows_at db pred.table) k d in
    only (length item.key) (covers.lens k d lt) item.key refl (admitted k d lt fits)

test_passes : (tests : List Test) (row : List Value) (test : Test) → Contains tests test → list_all (passes row) tests ≡ true → passes row test ≡ true
test_passes [] row test there all = absurd (omega (arith, there.1))
test_passes (x ∷ xs) row test (zero, lt, is) all = ap (passes row) (sym is) ∙ (and_parts (passes row x) (list_all (passes row) xs) all).0
test_passes (x ∷ xs) row test (suc k, lt, is) all = test_passes xs row test (k, omega (arith, lt), is) (and_parts (passes row x) (list_all (passes row) xs) all).1

equals : (op : Op) (test : Test) (v : Value) → test.op ≡ op → is_equality op ≡ true → op_holds test.op (value_order v test.value) ≡ true → v ≡ test.value
equals Eq test v is e h = same_value v test.value (ap (λ o. op_holds o (value_order v test.value)) (sym is) ∙ h)
equals Ne test v is e h = cc
equals Lt test v is e h = cc
equals Le test v is e h = cc
equals Gt test v is e h = cc
equals Ge test v is e h = cc

-- the keys under the value of a test are those of all rows that match
pub fewest_have : (index : Contents) (pred : Pred) (keys : KeyList) (db : List (List Keyed)) → CoversRows index pred.table (rows_at db pred.table) → AreFewest index pred keys → HaveKeys pred keys (rows_at db pred.table)
fewest_have index pred keys db covers few k d lt fits = by (is_equality few.test.op) refl (is_indexed index pred.table few.test.column) refl few.are
  where
    by : (a : Bool) → is_equality few.test.op ≡ a → (b : Bool) → is_indexed index pred.table few.test.column ≡ b → cond (a && b) (Some (keys_under index pred.table few.test.column few.test.value)) None ≡ Some keys
        → is_some (item_of keys (slice_index_or (rows_at db pred.table) k d).key) ≡ true
    by true e true f is =
        let item = slice_index_or (rows_at db pred.table) k d in
        let v : column_of item.row few.test.column ≡ few.test.value = equals few.test.op few.test (column_of item.row few.test.column) refl e (test_passes pred.tests item.row few.test few.there fits) in
        let same : keys_under index pred.table few.test.column few.test.value ≡ keys = cc in
        ap (λ l. is_some (item_of l item.key)) (sym same) ∙ (ap (λ w. stands index pred.table few.test.column w item.key) (sym v) ∙ covers.keys few.test.column f k d lt)
    by true e false f is = cc
    by false e b f is = cc
