-- What patches do to rows whose keys rise, and writes to a database.
use Rattle.std.proofs.Common.{◌≡◌, ◌<◌, ◌≤◌, ℕ, zero, suc, Bool, true, false, cond, List, [], ◌∷◌, ◌++◌, Option, Some, None, length, refl, sym, ap, subst, ◌∙◌, arith, ◌+◌, Result, Ok, Err, MatchResult}
use Rattle.std.specs.Prelude.{◌↔◌, Contains, ◌==◌, ◌&&◌, slice_index_or, slice_get, slice_set, All, insert, remove, ◌||◌}
use Rattle.std.specs.List.{filter}
use Rattle.std.specs.Ordering.{is_eq}
use Rattle.std.specs.declared.cmp.Ordering.{Ordering}
use Rattle.std.specs.declared.cmp.Ordering.TheVariants.{Less, Equal, Greater}
use Rattle.std.proofs.lemmas.List.{set-set, set-get_or, get_or-set_same, get_or-set_other, length-set, set_past}
use Rattle.std.proofs.lemmas.Bool.{eqb-true, eqb-false}
use Rattle.std.proofs.lemmas.Option.{slice_get_within}
use Rattle.std.proofs.lemmas.List.Elements.{filter-append}
use Rattle.mv_values.specs.declared.value.Value.{Value}
use Rattle.mv_values.specs.declared.rows.Keyed.{Keyed}
use Rattle.mv_values.specs.declared.patch.Patch.{Patch}
use Rattle.mv_values.specs.declared.patch.Write.{Write}
use Rattle.mv_values.specs.declared.pred.Pred.{Pred}
use Rattle.mv_values.specs.Keys.{IsRising, IsPlaceOf, IsGapFor, with_row}
use Rattle.mv_values.specs.Order.{key_order}
use Rattle.mv_values.specs.Patching.{row_of, patched, standing, placed, patched_rows, written, applied, found_by}
use Rattle.mv_values.specs.Preds.{matches, matched}
use Rattle.mv_values.specs.Tables.{rows_at}
use Rattle.mv_values.proofs.KeyOrder.{exact_keys, tied, same_key, turned}
use Rattle.mv_record.specs.Writes.{is_on, writes_on, patched_by, AreRising, touches}
use Rattle.mv_record.proofs.Rising.{Above, Rises, rises_from, rising_from, lower, row_here, row_later, row_below, same_rows, filter_rises, matching_row, stands_found, found_stands}

-- A row put under a key

pub placed_before : (key : List Value) (row : Option (List Value)) (x : Keyed) (xs : List Keyed) → key_order x.key key ≡ Less → placed key row (x ∷ xs) ≡ x ∷ placed key row xs
placed_before key row x xs h = rw h refl

pub placed_here : (key : List Value) (row : Option (List Value)) (x : Keyed) (xs : List Keyed) → key_order x.key key ≡ Equal → placed key row (x ∷ xs) ≡ standing key row ++ xs
placed_here key row x xs h = rw h refl

pub placed_past : (key : List Value) (row : Option (List Value)) (x : Keyed) (xs : List Keyed) → key_order x.key key ≡ Greater → placed key row (x ∷ xs) ≡ standing key row ++ x ∷ xs
placed_past key row x xs h = rw h refl

placed_none : (key : List Value) (row : Option (List Value)) → placed key row [] ≡ standing key row ++ []
placed_none key None = refl
placed_none key (Some row) = refl

standing_row : (key : List Value) (row : Option (List Value)) (xs : List Keyed) → Above key xs → row_of (standing key row ++ xs) key ≡ row
standing_row key None xs h = row_below key xs h
standing_row key (Some row) xs h = row_here (record { key = key; row = row }) xs key (same_key key)

standing_other : (key : List Value) (row : Option (List Value)) (xs : List Keyed) (other : List Value) → is_eq (key_order key other) ≡ false → row_of (standing key row ++ xs) other ≡ row_of xs other
standing_other key None xs other h = refl
standing_other key (Some row) xs other h = row_later (record { key = key; row = row }) xs other h

standing_above : (low key : List Value) (row : Option (List Value)) (xs : List Keyed) → key_order low key ≡ Less → Above low xs → Above low (standing key row ++ xs)
standing_above low key None xs e h = h
standing_above low key (Some row) xs e h = (e, h)

standing_rises : (key : List Value) (row : Option (List Value)) (xs : List Keyed) → Above key xs → Rises xs → Rises (standing key row ++ xs)
standing_rises key None xs h r = r
standing_rises key (Some row) xs h r = (h, r)

-- the key is below the rows from a greater one on
past : (key : List Value) (x : Keyed) (xs : List Keyed) → key_order x.key key ≡ Greater → Rises (x ∷ xs) → Above key (x ∷ xs)
past key x xs e h = let back = turned x.key key Greater e in (back, lower key x.key xs back h.0)

here_above : (key : List Value) (x : Keyed) (xs : List Keyed) → key_order x.key key ≡ Equal → Rises (x ∷ xs) → Above key xs
here_above key x xs e h = subst (λ k. Above k xs) (exact_keys x.key key e) h.0

-- under its key stands what was put there
placed_row : (key : List Value) (row : Option (List Value)) (xs : List Keyed) → Rises xs → row_of (placed key row xs) key ≡ row
placed_row key row [] h = ap (λ l. row_of l key) (placed_none key row) ∙ standing_row key row [] tt
placed_row key row (x ∷ xs) h = by (key_order x.key key) refl (placed_row key row xs h.1)
  where
    by : (o : Ordering) → key_order x.key key ≡ o → row_of (placed key row xs) key ≡ row → row_of (placed key row (x ∷ xs)) key ≡ row
    by Less e more = ap (λ l. row_of l key) (placed_before key row x xs e) ∙ (row_later x (placed key row xs) key (ap is_eq e) ∙ more)
    by Equal e more = ap (λ l. row_of l key) (placed_here key row x xs e) ∙ standing_row key row xs (here_above key x xs e h)
    by Greater e more = ap (λ l. row_of l key) (placed_past key row x xs e) ∙ standing_row key row (x ∷ xs) (past key x xs e h)

-- under another key stands what stood there
pub placed_other : (key : List Value) (row : Option (List Value)) (xs : List Keyed) (other : List Value) → is_eq (key_order key other) ≡ false → row_of (placed key row xs) other ≡ row_of xs other
placed_other key row [] other n = ap (λ l. row_of l other) (placed_none key row) ∙ standing_other key row [] other n
placed_other key row (x ∷ xs) other n = by (key_order x.key key) refl (placed_other key row xs other n)
  where
    by : (o : Ordering) → key_order x.key key ≡ o → row_of (placed key row xs) other ≡ row_of xs other → row_of (placed key row (x ∷ xs)) other ≡ row_of (x ∷ xs) other
    by Less e more = ap (λ l. row_of l other) (placed_before key row x xs e) ∙ ap (λ (o : Option (List Value)). cond (is_eq (key_order x.key other)) (Some x.row) o) more
    by Equal e more =
        let gone : is_eq (key_order x.key other) ≡ false = ap (λ k. is_eq (key_order k other)) (exact_keys x.key key e) ∙ n in
        ap (λ l. row_of l other) (placed_here key row x xs e) ∙ (standing_other key row xs other n ∙ sym (row_later x xs other gone))
    by Greater e more = ap (λ l. row_of l other) (placed_past key row x xs e) ∙ standing_other key row (x ∷ xs) other n

placed_above : (low key : List Value) (row : Option (List Value)) (xs : List Keyed) → key_order low key ≡ Less → Above low xs → Above low (placed key row xs)
placed_above low key row [] e h = subst (Above low) (sym (placed_none key row)) (standing_above low key row [] e tt)
placed_above low key row (x ∷ xs) e h = by (key_order x.key key) refl (placed_above low key row xs e h.1)
  where
    by : (o : Ordering) → key_order x.key key ≡ o → Above low (placed key row xs) → Above low (placed key row (x ∷ xs))
    by Less is more = subst (Above low) (sym (placed_before key row x xs is)) (h.0, more)
    by Equal is more = subst (Above low) (sym (placed_here key row x xs is)) (standing_above low key row xs e h.1)
    by Greater is more = subst (Above low) (sym (placed_past key row x xs is)) (standing_above low key row (x ∷ xs) e h)

pub placed_rises : (key : List Value) (row : Option (List Value)) (xs : List Keyed) → Rises xs → Rises (placed key row xs)
placed_rises key row [] h = subst Rises (sym (placed_none key row)) (standing_rises key row [] tt tt)
placed_rises key row (x ∷ xs) h = by (key_order x.key key) refl (placed_rises key row xs h.1)
  where
    by : (o : Ordering) → key_order x.key key ≡ o → Rises (placed key row xs) → Rises (placed key row (x ∷ xs))
    by Less e more = subst Rises (sym (placed_before key row x xs e)) (placed_above x.key key row xs e h.0, more)
    by Equal e more = subst Rises (sym (placed_here key row x xs e)) (standing_rises key row xs (here_above key x xs e h) h.1)
    by Greater e more = subst Rises (sym (placed_past key row x xs e)) (standing_rises key row (x ∷ xs) (past key x xs e h) h)

-- The laws, of rows whose keys rise

-- what was put under a key stands under it
pub row_of-placed_same : (key : List Value) (row : Option (List Value)) (rows : List Keyed) → IsRising rows → row_of (placed key row rows) key ≡ row
row_of-placed_same key row rows h = placed_row key row rows (rises_from rows h)

pub rising_placed : (key : List Value) (row : Option (List Value)) (rows : List Keyed) → IsRising rows → IsRising (placed key row rows)
rising_placed key row rows h = rising_from (placed key row rows) (placed_rises key row rows (rises_from rows h))

-- a patch keeps the keys rising
pub rising_patched : (key : List Value) (patch : Patch) (rows : List Keyed) → IsRising rows → IsRising (patched_rows key patch rows)
rising_patched key patch rows h = rising_placed key (patched patch (row_of rows key)) rows h

-- rows that have the same row under each key are one list
pub rows_same : (xs ys : List Keyed) → IsRising xs → IsRising ys → ((key : List Value) → row_of xs key ≡ row_of ys key) → xs ≡ ys
rows_same xs ys h g f = same_rows xs ys (rises_from xs h) (rises_from ys g) f

-- a row stands among the rows exactly where it is found under its key
pub stands_exactly : (rows : List Keyed) (item : Keyed) → IsRising rows → Contains rows item ↔ (row_of rows item.key ≡ Some item.row)
stands_exactly rows item h = (stands_found rows item (rises_from rows h), found_stands rows item.key item.row)

-- a filter keeps the keys rising
pub rising_filter : (q : Keyed → Bool) (rows : List Keyed) → IsRising rows → IsRising (filter q rows)
rising_filter q rows h = rising_from (filter q rows) (filter_rises q rows (rises_from rows h))

-- the row that a predicate finds under a key is the one that stands there, where it matches
pub row_of-found : (pred : Pred) (db : List (List Keyed)) (key : List Value) → AreRising db → row_of (found_by pred db) key ≡ matched pred (row_of (rows_at db pred.table) key)
row_of-found pred db key h = matching_row pred (rows_at db pred.table) key (rises_from (rows_at db pred.table) (h pred.table))

pub rising_found : (pred : Pred) (db : List (List Keyed)) → AreRising db → IsRising (found_by pred db)
rising_found pred db h = rising_filter (λ item. matches pred item.row) (rows_at db pred.table) (h pred.table)

-- Writes

pub length_written : (w : Write) (db : List (List Keyed)) → length (written w db) ≡ length db
length_written w db = simp length-set

pub applied_append : (vs ws : List Write) (db : List (List Keyed)) → applied (vs ++ ws) db ≡ applied ws (applied vs db)
applied_append [] ws db = refl
applied_append (v ∷ vs) ws db = applied_append vs ws (written v db)

pub writes_append : (t : ℕ) (key : List Value) (vs ws : List Write) → writes_on t key (vs ++ ws) ≡ writes_on t key vs ++ writes_on t key ws
writes_append t key vs ws = filter-append (is_on t key) vs ws

pub none_on : (t : ℕ) (key : List Value) (ws : List Write) → touches t key ws ≡ false → writes_on t key ws ≡ []
none_on t key [] h = refl
none_on t key (w ∷ ws) h = by (none_on t key ws) (is_on t key w) h
  where
    by : (touches t key ws ≡ false → writes_on t key ws ≡ []) → (b : Bool) → (b || touches t key ws) ≡ false → cond b (w ∷ writes_on t key ws) (writes_on t key ws) ≡ []
    by go true k = cc
    by go false k = go k

pub patched_append : (vs ws : List Write) (was : Option (List Value)) → patched_by (vs ++ ws) was ≡ patched_by ws (patched_by vs was)
patched_append [] ws was = refl
patched_append (v ∷ vs) ws was = patched_append vs ws (patched v.patch was)

pub length_applied : (ws : List Write) (db : List (List Keyed)) → length (applied ws db) ≡ length db
length_applied [] db = refl
length_applied (w ∷ ws) db = length_applied ws (written w db) ∙ length_written w db

-- a write changes its own table alone
pub table_other : (w : Write) (db : List (List Keyed)) (t : ℕ) → (w.table == t) ≡ false → rows_at (written w db) t ≡ rows_at db t
table_other w db t h = get_or-set_other db w.table t (patched_rows w.key w.patch (rows_at db w.table)) [] (λ same. eqb-false w.table t h (sym same))

pub table_same : (w : Write) (db : List (List Keyed)) → w.table < length db → rows_at (written w db) w.table ≡ patched_rows w.key w.patch (rows_at db w.table)
table_same w db lt = get_or-set_same db w.table (patched_rows w.key w.patch (rows_at db w.table)) [] lt

-- what holds of each table holds where one gets rows of which it holds
set_at : (P : List Keyed → Type 0) (db : List (List Keyed)) (t : ℕ) (rows : List Keyed) → ((u : ℕ) → P (rows_at db u)) → P rows → (u : ℕ) → P (rows_at (slice_set db t rows) u)
set_at P [] t rows h p u = h u
set_at P (r ∷ db) zero rows h p zero = p
set_at P (r ∷ db) zero rows h p (suc u) = h (suc u)
set_at P (r ∷ db) (suc t) rows h p zero = h zero
set_at P (r ∷ db) (suc t) rows h p (suc u) = set_at P db t rows (λ n. h (suc n)) p u

pub rising_written : (w : Write) (db : List (List Keyed)) → AreRising db → AreRising (written w db)
rising_written w db h = set_at IsRising db w.table (patched_rows w.key w.patch (rows_at db w.table)) h (rising_patched w.key w.patch (rows_at db w.table) (h w.table))

pub rising_applied : (ws : List Write) (db : List (List Keyed)) → AreRising db → AreRising (applied ws db)
rising_applied [] db h = h
rising_applied (w ∷ ws) db h = rising_applied ws (written w db) (rising_written w db h)

-- writes change their own tables alone
pub table_others : (ws : List Write) (db : List (List Keyed)) (t : ℕ) → All (λ w. (w.table == t) ≡ false) ws → rows_at (applied ws db) t ≡ rows_at db t
table_others [] db t h = refl
table_others (w ∷ ws) db t h =
    table_others ws (written w db) t (λ k d lt. h (suc k) d (omega (arith, lt))) ∙ table_other w db t (h 0 w (omega arith))

-- a write of a row: the row under its key, and no other
row_written : (w : Write) (db : List (List Keyed)) (t : ℕ) (key : List Value) → t < length db → AreRising db
    → row_of (rows_at (written w db) t) key ≡ cond (is_on t key w) (patched w.patch (row_of (rows_at db t) key)) (row_of (rows_at db t) key)
row_written w db t key lt h = by (w.table == t) refl (is_eq (key_order w.key key)) refl
  where
    rows : List Keyed
    rows = rows_at db t

    at_table : (w.table == t) ≡ true → rows_at (written w db) t ≡ patched_rows w.key w.patch (rows_at db t)
    at_table e =
        let same = eqb-true w.table t e in
        subst (λ u. rows_at (written w db) u ≡ patched_rows w.key w.patch (rows_at db u)) same (table_same w db (subst (λ u. u < length db) (sym same) lt))

    on : (b c : Bool) → (w.table == t) ≡ b → is_eq (key_order w.key key) ≡ c → is_on t key w ≡ b && c
    on b c e f = rw (e, f) refl

    by : (b : Bool) → (w.table == t) ≡ b → (c : Bool) → is_eq (key_order w.key key) ≡ c
        → row_of (rows_at (written w db) t) key ≡ cond (is_on t key w) (patched w.patch (row_of (rows_at db t) key)) (row_of (rows_at db t) key)
    by true e true f =
        let same = tied w.key key f in
        rw (on true true e f) (ap (λ l. row_of l key) (at_table e)
        ∙ subst (λ k. row_of (patched_rows w.key w.patch (rows_at db t)) k ≡ patched w.patch (row_of (rows_at db t) k)) same
        (row_of-placed_same w.key (patched w.patch (row_of (rows_at db t) w.key)) (rows_at db t) (h t)))
    by true e false f =
        rw (on true false e f) (ap (λ l. row_of l key) (at_table e) ∙ placed_other w.key (patched w.patch (row_of (rows_at db t) w.key)) (rows_at db t) key f)
    by false e c f = rw (on false c e f) (ap (λ l. row_of l key) (table_other w db t e))

-- the row under a key behind writes is the row behind their patches of it
pub row_applied : (ws : List Write) (db : List (List Keyed)) (t : ℕ) (key : List Value) → t < length db → AreRising db
    → row_of (rows_at (applied ws db) t) key ≡ patched_by (writes_on t key ws) (row_of (rows_at db t) key)
row_applied [] db t key lt h = refl
row_applied (w ∷ ws) db t key lt h =
    row_applied ws (written w db) t key (omega (arith, length_written w db)) (rising_written w db h)
    ∙ (ap (patched_by (writes_on t key ws)) (row_written w db t key lt h) ∙ by (is_on t key w))
  where
    by : (b : Bool) → patched_by (writes_on t key ws) (cond b (patched w.patch (row_of (rows_at db t) key)) (row_of (rows_at db t) key))
        ≡ patched_by (cond b (w ∷ writes_on t key ws) (writes_on t key ws)) (row_of (rows_at db t) key)
    by true = refl
    by false = refl

-- Places

-- the place where a row stands
put_place : (key : List Value) (row : Option (List Value)) (xs : List Keyed) (at : ℕ) (item : Keyed) → Rises xs → slice_get xs at ≡ Some item → item.key ≡ key → at < length xs
put_place key row [] at item h is same = cc
put_place key row (x ∷ xs) zero item h is same = omega arith
put_place key row (x ∷ xs) (suc at) item h is same = omega (arith, put_place key row xs at item h.1 is same)

key_above : (low : List Value) (xs : List Keyed) (at : ℕ) (item : Keyed) → slice_get xs at ≡ Some item → Above low xs → key_order low item.key ≡ Less
key_above low [] at item is h = cc
key_above low (x ∷ xs) zero item is h = let same : x ≡ item = cc in subst (λ (i : Keyed). key_order low i.key ≡ Less) same h.0
key_above low (x ∷ xs) (suc at) item is h = key_above low xs at item is h.1

before_place : (x : Keyed) (xs : List Keyed) (at : ℕ) (item : Keyed) (key : List Value) → slice_get xs at ≡ Some item → item.key ≡ key → Above x.key xs → key_order x.key key ≡ Less
before_place x xs at item key is same h = subst (λ k. key_order x.key k ≡ Less) same (key_above x.key xs at item is h)

here_equal : (x item : Keyed) (key : List Value) → ◌≡◌ {A = Option Keyed} (Some x) (Some item) → item.key ≡ key → x.key ≡ key
here_equal x item key is same = let e : x ≡ item = cc in ap (λ (i : Keyed). i.key) e ∙ same

key_equal : (a b : List Value) → a ≡ b → key_order a b ≡ Equal
key_equal a b e = subst (λ k. key_order a k ≡ Equal) e (same_key a)

-- a row put where its key stands
pub placed_at : (key row : List Value) (xs : List Keyed) (at : ℕ) (item : Keyed) → Rises xs → slice_get xs at ≡ Some item → item.key ≡ key → placed key (Some row) xs ≡ with_row xs at row
placed_at key row [] at item h is same = cc
placed_at key row (x ∷ xs) zero item h is same =
    let e = here_equal x item key is same in
    placed_here key (Some row) x xs (key_equal x.key key e) ∙ ap (λ (k : List Value). record { key = k; row = row } ∷ xs) (sym e)
placed_at key row (x ∷ xs) (suc at) item h is same =
    placed_before key (Some row) x xs (before_place x xs at item key is same h.0) ∙ ap (λ l. x ∷ l) (placed_at key row xs at item h.1 is same)

-- no row where one stood
pub placed_out : (key : List Value) (xs : List Keyed) (at : ℕ) (item : Keyed) → Rises xs → slice_get xs at ≡ Some item → item.key ≡ key → placed key None xs ≡ remove xs at
placed_out key [] at item h is same = cc
placed_out key (x ∷ xs) zero item h is same = placed_here key None x xs (key_equal x.key key (here_equal x item key is same))
placed_out key (x ∷ xs) (suc at) item h is same =
    placed_before key None x xs (before_place x xs at item key is same h.0) ∙ ap (λ l. x ∷ l) (placed_out key xs at item h.1 is same)

-- the row that stands at the place of a key
pub row_place : (key : List Value) (xs : List Keyed) (at : ℕ) (item : Keyed) → Rises xs → slice_get xs at ≡ Some item → item.key ≡ key → row_of xs key ≡ Some item.row
row_place key [] at item h is same = cc
row_place key (x ∷ xs) zero item h is same =
    let e : x ≡ item = cc in row_here x xs key (key_equal x.key key (here_equal x item key is same)) ∙ ap (λ (i : Keyed). Some i.row) e
row_place key (x ∷ xs) (suc at) item h is same =
    row_later x xs key (ap is_eq (before_place x xs at item key is same h.0)) ∙ row_place key xs at item h.1 is same

gap_tail : (r : Keyed) (rs : List Keyed) (key : List Value) (at : ℕ) → IsGapFor (r ∷ rs) key (suc at) → IsGapFor rs key at
gap_tail r rs key at gap =
    (omega (arith, gap.0), (λ k d low lt. gap.1.0 (suc k) d (omega arith) (omega (arith, lt)), λ k d low lt. gap.1.1 (suc k) d (omega (arith, low)) (omega (arith, lt))))

gap_below : (r : Keyed) (rs : List Keyed) (key : List Value) (at : ℕ) → IsGapFor (r ∷ rs) key (suc at) → key_order r.key key ≡ Less
gap_below r rs key at gap = gap.1.0 0 r (omega arith) (omega arith)

gap_above : (r : Keyed) (rs : List Keyed) (key : List Value) → IsGapFor (r ∷ rs) key 0 → key_order r.key key ≡ Greater
gap_above r rs key gap = gap.1.1 0 r (omega arith) (omega arith)

-- a row put where its key would stand
pub placed_gap : (key row : List Value) (xs : List Keyed) (at : ℕ) → IsGapFor xs key at → placed key (Some row) xs ≡ insert xs at (record { key = key; row = row })
placed_gap key row [] zero gap = refl
placed_gap key row [] (suc at) gap = absurd (omega (arith, gap.0))
placed_gap key row (x ∷ xs) zero gap = placed_past key (Some row) x xs (gap_above x xs key gap)
placed_gap key row (x ∷ xs) (suc at) gap =
    placed_before key (Some row) x xs (gap_below x xs key at gap) ∙ ap (λ l. x ∷ l) (placed_gap key row xs at (gap_tail x xs key at gap))

-- no row where none stood
pub placed_nothing : (key : List Value) (xs : List Keyed) (at : ℕ) → IsGapFor xs key at → placed key None xs ≡ xs
placed_nothing key [] at gap = refl
placed_nothing key (x ∷ xs) zero gap = placed_past key None x xs (gap_above x xs key gap)
placed_nothing key (x ∷ xs) (suc at) gap =
    placed_before key None x xs (gap_below x xs key at gap) ∙ ap (λ l. x ∷ l) (placed_nothing key xs at (gap_tail x xs key at gap))

gap_rest : (r : Keyed) (rs : List Keyed) (key : List Value) → IsGapFor (r ∷ rs) key 0 → IsGapFor rs key 0
gap_rest r rs key gap = (omega arith, (λ k d low lt. absurd (omega (arith, low)), λ k d low lt. gap.1.1 (suc k) d (omega arith) (omega (arith, lt))))

-- where the key would stand there is none
row_gap : (key : List Value) (xs : List Keyed) (at : ℕ) → IsGapFor xs key at → row_of xs key ≡ None
row_gap key [] at gap = refl
row_gap key (x ∷ xs) zero gap = row_later x xs key (ap is_eq (gap_above x xs key gap)) ∙ row_gap key xs zero (gap_rest x xs key gap)
row_gap key (x ∷ xs) (suc at) gap = row_later x xs key (ap is_eq (gap_below x xs key at gap)) ∙ row_gap key xs at (gap_tail x xs key at gap)

gap_insert : (key row : List Value) (xs : List Keyed) (at : ℕ) → IsRising xs → IsGapFor xs key at → IsRising (insert xs at (record { key = key; row = row }))
gap_insert key row xs at h gap = subst IsRising (placed_gap key row xs at gap) (rising_placed key (Some row) xs h)

got : (xs : List Keyed) (at : ℕ) (item d : Keyed) → slice_get xs at ≡ Some item → slice_index_or xs at d ≡ item
got [] at item d is = cc
got (x ∷ xs) zero item d is = let e : x ≡ item = cc in e
got (x ∷ xs) (suc at) item d is = got xs at item d is

abbrev pub IsPlace : List Keyed → List Value → Result ℕ ℕ → Type 0
IsPlace rows key place = MatchResult place (IsPlaceOf rows key) (IsGapFor rows key)

there : (rows : List Keyed) (key : List Value) (place : Result ℕ ℕ) (at : ℕ) → place ≡ Ok at → IsPlace rows key place → IsPlaceOf rows key at
there rows key place at is h = subst (IsPlace rows key) is h

absent : (rows : List Keyed) (key : List Value) (place : Result ℕ ℕ) (at : ℕ) → place ≡ Err at → IsPlace rows key place → IsGapFor rows key at
absent rows key place at is h = subst (IsPlace rows key) is h

-- a place is within the rows
pub place_within : (rows : List Keyed) (key : List Value) (place : Result ℕ ℕ) → IsPlace rows key place → MatchResult place (λ at. at < length rows) (λ at. at ≤ length rows)
place_within rows key (Ok at) h = slice_get_within rows at h.0 h.1
place_within rows key (Err at) h = h.0

pub row_found : (rows : List Keyed) (key : List Value) (place : Result ℕ ℕ) (at : ℕ) (d : Keyed) → IsRising rows → place ≡ Ok at → IsPlace rows key place → Some (slice_index_or rows at d).row ≡ row_of rows key
row_found rows key place at d rising is h =
    let p = there rows key place at is h in
    ap (λ (i : Keyed). Some i.row) (got rows at p.0 d p.1) ∙ sym (row_place key rows at p.0 (rises_from rows rising) p.1 p.2)

pub row_lacking : (rows : List Keyed) (key : List Value) (place : Result ℕ ℕ) (at : ℕ) → place ≡ Err at → IsPlace rows key place → ◌≡◌ {A = Option (List Value)} None (row_of rows key)
row_lacking rows key place at is h = sym (row_gap key rows at (absent rows key place at is h))

pub put_over : (rows : List Keyed) (key row : List Value) (place : Result ℕ ℕ) (at : ℕ) → IsRising rows → place ≡ Ok at → IsPlace rows key place → (at < length rows) × (with_row rows at row ≡ placed key (Some row) rows)
put_over rows key row place at rising is h =
    let p = there rows key place at is h in (slice_get_within rows at p.0 p.1, sym (placed_at key row rows at p.0 (rises_from rows rising) p.1 p.2))

pub put_out : (rows : List Keyed) (key : List Value) (place : Result ℕ ℕ) (at : ℕ) → IsRising rows → place ≡ Ok at → IsPlace rows key place → remove rows at ≡ placed key None rows
put_out rows key place at rising is h = let p = there rows key place at is h in sym (placed_out key rows at p.0 (rises_from rows rising) p.1 p.2)

pub put_between : (rows : List Keyed) (key row : List Value) (place : Result ℕ ℕ) (at : ℕ) → IsRising rows → place ≡ Err at → IsPlace rows key place
    → (at ≤ length rows) × IsRising (insert rows at (record { key = key; row = row })) × (insert rows at (record { key = key; row = row }) ≡ placed key (Some row) rows)
put_between rows key row place at rising is h =
    let gap = absent rows key place at is h in (gap.0, gap_insert key row rows at rising gap, sym (placed_gap key row rows at gap))

pub put_nothing : (rows : List Keyed) (key : List Value) (place : Result ℕ ℕ) (at : ℕ) → place ≡ Err at → IsPlace rows key place → rows ≡ placed key None rows
put_nothing rows key place at is h = sym (placed_nothing key rows at (absent rows key place at is h))

-- One table

there_at : (db : List (List Keyed)) (t : ℕ) (rows : List Keyed) → slice_get db t ≡ Some rows → rows_at db t ≡ rows
there_at [] t rows is = cc
there_at (r ∷ db) zero rows is = cc
there_at (r ∷ db) (suc t) rows is = there_at db t rows is

-- rows put back where they were taken from
back_at : (db : List (List Keyed)) (t : ℕ) (rows : List Keyed) → slice_get db t ≡ Some rows → slice_set (slice_set db t []) t rows ≡ db
back_at db t rows is = set-set db t [] rows ∙ (ap (slice_set db t) (sym (there_at db t rows is)) ∙ set-get_or db t [])

pub put_written : (w : Write) (db after : List (List Keyed)) (rows new : List Keyed) → after ≡ slice_set (slice_set db w.table []) w.table new → slice_get db w.table ≡ Some rows
    → new ≡ patched_rows w.key w.patch rows → after ≡ written w db
put_written w db after rows new is there same =
    is ∙ (set-set db w.table [] new ∙ ap (slice_set db w.table) (same ∙ ap (patched_rows w.key w.patch) (sym (there_at db w.table rows there))))

pub put_back : (t : ℕ) (db after : List (List Keyed)) (rows new : List Keyed) → after ≡ slice_set (slice_set db t []) t new → slice_get db t ≡ Some rows → new ≡ rows → after ≡ db
put_back t db after rows new is there same = is ∙ (ap (slice_set (slice_set db t []) t) same ∙ back_at db t rows there)

-- a write to a table that isn't there
pub written_nowhere : (w : Write) (db : List (List Keyed)) → length db ≤ w.table → db ≡ written w db
written_nowhere w db le = sym (set_past db w.table (patched_rows w.key w.patch (rows_at db w.table)) le)
