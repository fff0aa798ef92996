-- An opening is a database of the tables.
use Rattle.std.proofs.Common.{◌≡◌, ◌++◌, ◌&&◌, if◌then◌else◌, ℕ, ℤ, zero, suc, Bool, true, false, List, [], ◌∷◌, Option, Some, None, map, length, refl, sym, ap, subst, arith, leb-true}
use Rattle.std.specs.Prelude.{All, nat_le, option_map, slice_get, slice_set}
use Rattle.std.specs.List.{AllZip, list_all}
use Rattle.std.proofs.lemmas.List.Elements.{All-append, All-cons, All-map, All-nil}
use Rattle.std.proofs.lemmas.List.Sorted.{All-permutation}
use Rattle.mv_values.specs.declared.value.Value.{Value}
use Rattle.mv_values.specs.declared.value.Value.TheVariants as value
use Rattle.mv_values.specs.declared.rows.Keyed.{Keyed}
use Rattle.mv_values.specs.declared.schema.ColType.{ColType}
use Rattle.mv_values.specs.declared.schema.ColType.TheVariants as column
use Rattle.mv_values.specs.declared.schema.Column.{Column}
use Rattle.mv_values.specs.declared.schema.TableInfo.{TableInfo}
use Rattle.mv_values.specs.Keys.{IsRising}
use Rattle.mv_values.specs.Tables.{KeysStand, key_columns, key_in, rows_at, StandsUnder}
use Rattle.mv_values.specs.Printable.{is_printable}
use Rattle.mv_catalog.specs.declared.resolved.CopyInfo.{CopyInfo}
use Rattle.mv_catalog.specs.declared.resolved.Resolved.{Resolved}
use Rattle.mv_catalog.specs.Text.{FitsText, IsOf, RowsFit, types_of}
use Rattle.mv_catalog.specs.Text as text
use Rattle.mv_record.specs.Databases.{AreTyped, HasRow, IsDatabaseOf}
use Rattle.mv_record.specs.Writes.{AreRising}
use Rattle.mv_csvio.specs.Fields.{IsRow, number_in, value_in, values_in}
use Rattle.mv_csvio.specs.Joining.{HasJoined, under_key}
use Rattle.mv_csvio.specs.Loading.{Record, records_of}
use Rattle.mv_csvio.proofs.Fitted.{joined_keys, loaded_keys}
use Rattle.mv_csvio.proofs.Joined.{rising_none}
use Rattle.mv_opening.specs.Opening.{HasCopied, HaveCopied, HaveGathered, IsOpening, block_of}
use Rattle.mv_opening.proofs.Opened.{opening_sized}

-- what holds of the rows of each table holds where those of one are replaced
set_rows : (P : ℕ → List Keyed → Type 0) (db : List (List Keyed)) (k : ℕ) (rows : List Keyed) → P k rows → ((t : ℕ) → P t (rows_at db t)) → (t : ℕ) → P t (rows_at (slice_set db k rows) t)
set_rows P [] k rows new old t = old t
set_rows P (x ∷ db) zero rows new old zero = new
set_rows P (x ∷ db) zero rows new old (suc t) = old (suc t)
set_rows P (x ∷ db) (suc k) rows new old zero = old zero
set_rows P (x ∷ db) (suc k) rows new old (suc t) = set_rows (λ n. P (suc n)) db k rows new (λ n. old (suc n)) t

gathered_stand : (infos : List TableInfo) (values : List (List (List Value))) (tables : List (List Keyed)) → HaveGathered infos values tables → KeysStand infos tables
gathered_stand [] values tables h t = subst (λ (db : List (List Keyed)). All (StandsUnder (key_columns [] t)) (rows_at db t)) (sym h) (All-nil (StandsUnder (key_columns [] t)))
gathered_stand (info ∷ infos) [] tables h t = absurd h
gathered_stand (info ∷ infos) (rows ∷ values) [] h t = absurd h
gathered_stand (info ∷ infos) (rows ∷ values) (x ∷ tables) h zero = joined_keys info [] rows x (All-nil (StandsUnder info.key)) h.0
gathered_stand (info ∷ infos) (rows ∷ values) (x ∷ tables) h (suc t) = gathered_stand infos values tables h.1 t

one_stands : (infos : List TableInfo) (bytes : List ℕ) (there : List (List Keyed)) (c : CopyInfo) (after : List (List Keyed)) → HasCopied infos bytes there c after → KeysStand infos there → KeysStand infos after
one_stands infos bytes there c after (closed, info, at', rows, loaded, is) h =
    let key : key_columns infos c.table ≡ info.key = ap key_in at' in
    let old : All (StandsUnder info.key) (rows_at there c.table) = subst (λ (k : List ℕ). All (StandsUnder k) (rows_at there c.table)) key (h c.table) in
    let new : All (StandsUnder (key_columns infos c.table)) rows =
    subst (λ (k : List ℕ). All (StandsUnder k) rows) (sym key) (loaded_keys info (rows_at there c.table) (records_of (block_of bytes c)) rows old loaded) in
    subst (λ (db : List (List Keyed)). KeysStand infos db) (sym is) (set_rows (λ t rs. All (StandsUnder (key_columns infos t)) rs) there c.table rows new h)

copied_stand : (infos : List TableInfo) (bytes : List ℕ) (before : List (List Keyed)) (cs : List CopyInfo) (after : List (List Keyed)) → HaveCopied infos bytes before cs after → KeysStand infos before → KeysStand infos after
copied_stand infos bytes before [] after h old = subst (λ (db : List (List Keyed)). KeysStand infos db) h old
copied_stand infos bytes before (c ∷ cs) after h old = copied_stand infos bytes h.0 cs after h.2 (one_stands infos bytes before c h.0 h.1 old)

opening_stands : (resolved : Resolved) (bytes : List ℕ) (tables : List (List Keyed)) → IsOpening resolved bytes tables → KeysStand resolved.tables tables
opening_stands resolved bytes tables h = copied_stand resolved.tables bytes h.0 resolved.copies tables h.2 (gathered_stand resolved.tables resolved.rows h.0 h.1)

-- Rising keys

gathered_rise : (infos : List TableInfo) (values : List (List (List Value))) (tables : List (List Keyed)) → HaveGathered infos values tables → AreRising tables
gathered_rise [] values tables h t = subst (λ (db : List (List Keyed)). IsRising (rows_at db t)) (sym h) rising_none
gathered_rise (info ∷ infos) [] tables h t = absurd h
gathered_rise (info ∷ infos) (rows ∷ values) [] h t = absurd h
gathered_rise (info ∷ infos) (rows ∷ values) (x ∷ tables) h zero = h.0.0
gathered_rise (info ∷ infos) (rows ∷ values) (x ∷ tables) h (suc t) = gathered_rise infos values tables h.1 t

copied_rise : (infos : List TableInfo) (bytes : List ℕ) (before : List (List Keyed)) (cs : List CopyInfo) (after : List (List Keyed)) → HaveCopied infos bytes before cs after → AreRising before → AreRising after
copied_rise infos bytes before [] after h old = subst AreRising h old
copied_rise infos bytes before (c ∷ cs) after (there, (closed, info, at', rows, loaded, is), rest) old =
    copied_rise infos bytes there cs after rest (subst AreRising (sym is) (set_rows (λ t rs. IsRising rs) before c.table rows loaded.2.0 old))

-- Values of the columns' types

-- a value that was read is one of its column's type
of_type : (k : ColType) (field : List ℕ) (v : Value) → value_in k field ≡ Some v → IsOf k v
of_type column.Int field v h = by (number_in field) h
  where
    by : (o : Option ℤ) → option_map value.Int o ≡ Some v → IsOf column.Int v
    by None e = cc
    by (Some z) e = let same : value.Int z ≡ v = cc in subst (IsOf column.Int) same tt
of_type (column.Text n) field v h = by (nat_le (length field) n) refl (list_all is_printable field) h
  where
    by : (b : Bool) → nat_le (length field) n ≡ b → (c : Bool) → (if b && c then Some (value.Text field) else None) ≡ Some v → IsOf (column.Text n) v
    by true le true e = let same : value.Text field ≡ v = cc in subst (IsOf (column.Text n)) same (leb-true (length field) n le)
    by true le false e = cc
    by false le c e = cc

of_types : (columns : List Column) (fields : Record) (row : List Value) → values_in columns fields ≡ map Some row → length fields ≡ length columns → text.IsRow (map (λ (c : Column). c.kind) columns) row
unfolding values_in
of_types [] fields [] h n = tt
of_types [] fields (v ∷ row) h n = cc
of_types (c ∷ cs) [] row h n = absurd (omega (arith, n))
of_types (c ∷ cs) (f ∷ fs) [] h n = cc
of_types (c ∷ cs) (f ∷ fs) (v ∷ row) h n =
    let head : value_in c.kind f ≡ Some v = cc in
    let tail : values_in cs fs ≡ map Some row = cc in
    (of_type c.kind f v head, of_types cs fs row tail (omega (arith, n)))

records_typed : (table : TableInfo) (block : List Record) (rows : List (List Value)) → AllZip (IsRow table.columns) block rows → All (text.IsRow (types_of table)) rows
records_typed table [] [] h = All-nil (text.IsRow (types_of table))
records_typed table [] (row ∷ rows) h = absurd h
records_typed table (r ∷ rs) [] h = absurd h
records_typed table (r ∷ rs) (row ∷ rows) h = All-cons (text.IsRow (types_of table)) row rows (of_types table.columns r row h.0.1 h.0.0) (records_typed table rs rows h.1)

joined_typed : (table : TableInfo) (before : List Keyed) (rows : List (List Value)) (after : List Keyed) → All (HasRow table) before → All (text.IsRow (types_of table)) rows → HasJoined table before rows after → All (HasRow table) after
joined_typed table before rows after old new h =
    All-permutation (HasRow table) (before ++ map (under_key table) rows) after h.1 (All-append (HasRow table) before (map (under_key table) rows) old (All-map (HasRow table) (under_key table) rows new))

gathered_typed : (infos : List TableInfo) (values : List (List (List Value))) (tables : List (List Keyed)) → AllZip RowsFit infos values → HaveGathered infos values tables → AreTyped infos tables
gathered_typed [] values tables fit h = subst (AreTyped []) (sym h) tt
gathered_typed (info ∷ infos) [] tables fit h = absurd h
gathered_typed (info ∷ infos) (rows ∷ values) [] fit h = absurd h
gathered_typed (info ∷ infos) (rows ∷ values) (x ∷ tables) fit h = (joined_typed info [] rows x (All-nil (HasRow info)) fit.0 h.0, gathered_typed infos values tables fit.1 h.1)

-- the rows of one table are replaced by rows that suit it
set_typed : (infos : List TableInfo) (db : List (List Keyed)) (k : ℕ) (info : TableInfo) (rows : List Keyed) → AreTyped infos db → slice_get infos k ≡ Some info → (All (HasRow info) (rows_at db k) → All (HasRow info) rows)
    → AreTyped infos (slice_set db k rows)
set_typed [] db k info rows h at' new = cc
set_typed (i ∷ infos) [] k info rows h at' new = absurd h
set_typed (i ∷ infos) (x ∷ db) zero info rows h at' new =
    let same : i ≡ info = cc in
    (subst (λ (n : TableInfo). All (HasRow n) rows) (sym same) (new (subst (λ (n : TableInfo). All (HasRow n) x) same h.0)), h.1)
set_typed (i ∷ infos) (x ∷ db) (suc k) info rows h at' new = (h.0, set_typed infos db k info rows h.1 at' new)

copied_typed : (infos : List TableInfo) (bytes : List ℕ) (before : List (List Keyed)) (cs : List CopyInfo) (after : List (List Keyed)) → HaveCopied infos bytes before cs after → AreTyped infos before → AreTyped infos after
copied_typed infos bytes before [] after h old = subst (AreTyped infos) h old
copied_typed infos bytes before (c ∷ cs) after (there, (closed, info, at', rows, loaded, is), rest) old =
    let new = records_typed info (records_of (block_of bytes c)) loaded.0 loaded.1 in
    let next = set_typed infos before c.table info rows old at' (λ was. joined_typed info (rows_at before c.table) loaded.0 rows was new loaded.2) in
    copied_typed infos bytes there cs after rest (subst (AreTyped infos) (sym is) next)

-- The whole

pub opening_is : (resolved : Resolved) (bytes : List ℕ) (tables : List (List Keyed)) → FitsText resolved → IsOpening resolved bytes tables → IsDatabaseOf resolved.tables tables
opening_is resolved bytes tables fits h = record {
  size = opening_sized resolved bytes tables h;
  rising = copied_rise resolved.tables bytes h.0 resolved.copies tables h.2 (gathered_rise resolved.tables resolved.rows h.0 h.1);
  keys = opening_stands resolved bytes tables h;
  rows = copied_typed resolved.tables bytes h.0 resolved.copies tables h.2 (gathered_typed resolved.tables resolved.rows h.0 fits.rows h.1);
}
