-- No statement leaves a row without its parent.
use Rattle.std.proofs.Common.{◌≡◌, ◌⊎◌, inl, inr, ℕ, zero, suc, ◌+◌, ◌==◌, Bool, true, false, not, cond, List, [], ◌∷◌, ◌++◌, Option, Some, None, Result, Ok, Err, slice_set, if◌then◌else◌, refl, sym, ap, subst, ◌∙◌, arith}
use Rattle.std.specs.Prelude.{◌&&◌, ◌||◌, slice_get, pos}
use Rattle.std.specs.List.{filter, list_all, list_any}
use Rattle.std.specs.Ordering.{is_eq, ordering_reverse}
use Rattle.std.specs.declared.cmp.Ordering.{Ordering}
use Rattle.std.specs.declared.cmp.Ordering.TheVariants.{Less, Equal, Greater}
use Rattle.std.proofs.lemmas.Bool.Decides.{eqb_tells}
use Rattle.std.proofs.lemmas.Bool.{eqb-true, and_parts, or_parts}
use Rattle.std.proofs.lemmas.List.{get_or-set_other}
use Rattle.mv_values.specs.declared.value.Value.{Value}
use Rattle.mv_values.specs.declared.value.Value.TheVariants.{Int}
use Rattle.mv_values.specs.declared.pred.Test.{Test}
use Rattle.mv_values.specs.declared.rows.Keyed.{Keyed}
use Rattle.mv_values.specs.declared.schema.Column.{Column}
use Rattle.mv_values.specs.declared.schema.TableInfo.{TableInfo}
use Rattle.mv_values.specs.declared.calls.End.{End}
use Rattle.mv_values.specs.declared.calls.End.TheVariants.{MissingParent, HasChildren}
use Rattle.mv_values.specs.Columns.{column_of}
use Rattle.mv_values.specs.Order.{value_order, key_order}
use Rattle.mv_values.specs.Preds.{meets}
use Rattle.mv_values.specs.References.{Reference, parent_in, parent_of, reference, references_from, references, all_references, references_to, has_key, is_there}
use Rattle.mv_values.specs.Tables.{rows_at, columns_at, key_columns, Tables}
use Rattle.mv_values.proofs.KeyOrder.{value_order_total}
use Rattle.mv_catalog.specs.declared.resolved.RSetItem.{RSetItem}
use Rattle.mv_catalog.specs.declared.resolved.RStmt.{RStmt}
use Rattle.mv_catalog.specs.declared.resolved.RStmt.TheOpen.{Assign, Select, Total, ForSelect, ForRows, Branch, Insert, Update, Delete, Print, Rollback}
use Rattle.mv_eval.specs.declared.state.Env.{Env}
use Rattle.mv_eval.specs.declared.state.State.{State}
use Rattle.mv_eval.specs.Results.{then_do}
use Rattle.mv_eval.specs.Value.{value_of, values_of}
use Rattle.mv_eval.specs.Rows.{matching, is_some_row, tests_of, fit, aggregate}
use Rattle.mv_eval.specs.Changes.{with_column, set_row_by, updated, without, new_row, put_row, put_row_by, keyed}
use Rattle.mv_eval.specs.Alone.{matching_in, with_rows, offset_of, fixed}
use Rattle.mv_eval.specs.References.{is_own_parent, has_parents, with_parent, fit_in, holds_key, left_in, has_children}
use Rattle.mv_eval.proofs.Standing.{New, goes_to, whenever, unless}
use Rattle.mv_recorded.specs.Doing.{itself}
use Rattle.mv_recorded.specs.Own.{Each}
use Rattle.mv_recorded.specs.Parents.{HasParents, ReferencesStand, ReferencesKept}
use Rattle.mv_recorded.proofs.Inverting.{each_map, each_join}
use Rattle.mv_recorded.proofs.Leading.{KeepsTables, then_keeps}

-- Lists

none_of : {A : Type 0} (f : A → Bool) (xs : List A) → list_any f xs ≡ false → Each (λ x. f x ≡ false) xs
none_of f [] h = tt
none_of f (x ∷ xs) h = let both = or_parts (f x) (list_any f xs) h in (both.0, none_of f xs both.1)

any_none : {A : Type 0} (f : A → Bool) (xs : List A) → Each (λ x. f x ≡ false) xs → list_any f xs ≡ false
any_none f [] h = refl
any_none f (x ∷ xs) h = ap (λ b. b || list_any f xs) h.0 ∙ any_none f xs h.1

swapped : {A B : Type 0} (P : A → B → Type 0) (as' : List A) (bs : List B) → Each (λ a. Each (λ b. P a b) bs) as' → Each (λ b. Each (λ a. P a b) as') bs
swapped P [] [] h = tt
swapped P [] (b ∷ bs) h = (tt, swapped P [] bs tt)
swapped P (a ∷ as') [] h = tt
swapped P (a ∷ as') (b ∷ bs) h = (heads (a ∷ as') h, swapped P (a ∷ as') bs (tails (a ∷ as') h))
  where
    heads : (xs : List _) → Each (λ a. Each (λ b. P a b) (b ∷ bs)) xs → Each (λ a. P a b) xs
    heads [] h = tt
    heads (x ∷ xs) h = (h.0.0, heads xs h.1)

    tails : (xs : List _) → Each (λ a. Each (λ b. P a b) (b ∷ bs)) xs → Each (λ a. Each (λ b. P a b) bs) xs
    tails [] h = tt
    tails (x ∷ xs) h = (h.0.1, tails xs h.1)

each_filter : {A : Type 0} (P : A → Type 0) (p : A → Bool) (xs : List A) → Each P xs → Each P (filter p xs)
each_filter P p [] h = tt
each_filter P p (x ∷ xs) h = by (p x) (each_filter P p xs h.1)
  where
    by : (b : Bool) → Each P (filter p xs) → Each P (cond b (x ∷ filter p xs) (filter p xs))
    by true k = (h.0, k)
    by false k = k

both_each : {A : Type 0} (P Q R : A → Type 0) (xs : List A) → ((x : A) → P x → Q x → R x) → Each P xs → Each Q xs → Each R xs
both_each P Q R [] f h k = tt
both_each P Q R (x ∷ xs) f h k = (f x h.0 k.0, both_each P Q R xs f h.1 k.1)

-- References of a table

InTable : List TableInfo → ℕ → Reference → Type 0
InTable tables t r = (r.table ≡ t) × (parent_of tables t r.column ≡ Some r.parent)

refs_from : (t c : ℕ) (columns all : List Column) → ((j : ℕ) → slice_get all (c + j) ≡ slice_get columns j) → Each (λ (r : Reference). (r.table ≡ t) × (parent_in (slice_get all r.column) ≡ Some r.parent)) (references_from t c columns)
refs_from t c [] all h = tt
refs_from t c (column ∷ columns) all h =
    each_join (λ (r : Reference). (r.table ≡ t) × (parent_in (slice_get all r.column) ≡ Some r.parent)) (reference t c column.refers) (references_from t (c + 1) columns) (by column.refers refl)
    (refs_from t (c + 1) columns all (λ j. ap (slice_get all) (let e : (c + 1) + j ≡ c + suc j = omega arith in e) ∙ h (suc j)))
  where
    here : slice_get all c ≡ Some column
    here = ap (slice_get all) (let e : c ≡ c + 0 = omega arith in e) ∙ h 0

    by : (o : Option ℕ) → column.refers ≡ o → Each (λ (r : Reference). (r.table ≡ t) × (parent_in (slice_get all r.column) ≡ Some r.parent)) (reference t c o)
    by None e = tt
    by (Some p) e = ((refl, ap parent_in here ∙ e), tt)

refs_in : (tables : List TableInfo) (t : ℕ) → Each (λ (r : Reference). (r.table ≡ t) × (parent_of tables t r.column ≡ Some r.parent)) (references tables t)
refs_in tables t = refs_from t 0 (columns_at tables t) (columns_at tables t) (λ j. ap (slice_get (columns_at tables t)) (let e : 0 + j ≡ j = omega arith in e))

-- what no reference to a table has, no reference of a table to it has
filter_none : (f p : Reference → Bool) (xs : List Reference) → list_any f (filter p xs) ≡ false → Each (λ (r : Reference). p r ≡ true → f r ≡ false) xs
filter_none f p [] h = tt
filter_none f p (x ∷ xs) h = by (p x) refl h (filter_none f p xs)
  where
    by : (b : Bool) → p x ≡ b → list_any f (cond b (x ∷ filter p xs) (filter p xs)) ≡ false → (list_any f (filter p xs) ≡ false → Each (λ (r : Reference). p r ≡ true → f r ≡ false) xs)
        → (p x ≡ true → f x ≡ false) × Each (λ (r : Reference). p r ≡ true → f r ≡ false) xs
    by true e k go = let both = or_parts (f x) (list_any f (filter p xs)) k in ((λ yes'. both.0), go both.1)
    by false e k go = ((λ yes'. let d : false ≡ true = sym e ∙ yes' in cc), go k)

front_of : {A : Type 0} (P : A → Type 0) (xs ys : List A) → Each P (xs ++ ys) → Each P xs
front_of P [] ys h = tt
front_of P (x ∷ xs) ys h = (h.0, front_of P xs ys h.1)

back_of : {A : Type 0} (P : A → Type 0) (xs ys : List A) → Each P (xs ++ ys) → Each P ys
back_of P [] ys h = h
back_of P (x ∷ xs) ys h = back_of P xs ys h.1

refs_of : (P : Reference → Type 0) (n : ℕ) (tables : List TableInfo) (u : ℕ) → Each P (all_references n tables) → Each P (references_from (n + u) 0 (columns_at tables u))
refs_of P n [] u h = tt
refs_of P n (table ∷ tables) zero h = subst (λ m. Each P (references_from m 0 table.columns)) (let e : n ≡ n + 0 = omega arith in e) (front_of P (references_from n 0 table.columns) (all_references (n + 1) tables) h)
refs_of P n (table ∷ tables) (suc u) h =
    subst (λ m. Each P (references_from m 0 (columns_at tables u))) (let e : (n + 1) + u ≡ n + suc u = omega arith in e) (refs_of P (n + 1) tables u (back_of P (references_from n 0 table.columns) (all_references (n + 1) tables) h))

none_to : (tables : List TableInfo) (t u : ℕ) (f : Reference → Bool) → list_any f (references_to tables t) ≡ false → Each (λ (r : Reference). (r.parent == t) ≡ true → f r ≡ false) (references tables u)
none_to tables t u f h =
    subst (λ m. Each (λ (r : Reference). (r.parent == t) ≡ true → f r ≡ false) (references_from m 0 (columns_at tables u))) (let e : 0 + u ≡ u = omega arith in e)
    (refs_of (λ (r : Reference). (r.parent == t) ≡ true → f r ≡ false) 0 tables u (filter_none f (λ r. r.parent == t) (all_references 0 tables) h))

-- New rows of a table

-- the table has the rows, or there is none
in_or_out : (db : Tables) (t : ℕ) (rows : List Keyed) → (rows_at (slice_set db t rows) t ≡ rows) ⊎ (slice_set db t rows ≡ db)
in_or_out [] t rows = inr refl
in_or_out (x ∷ xs) zero rows = inl refl
in_or_out (x ∷ xs) (suc t) rows = by (in_or_out xs t rows)
  where
    by : (rows_at (slice_set xs t rows) t ≡ rows) ⊎ (slice_set xs t rows ≡ xs) → (rows_at (slice_set xs t rows) t ≡ rows) ⊎ (x ∷ slice_set xs t rows ≡ x ∷ xs)
    by (inl h) = inl h
    by (inr h) = inr (ap (λ l. x ∷ l) h)

-- a table that isn't the one with new rows is as before
apart : (db : Tables) (t u : ℕ) (rows : List Keyed) → (u == t) ≡ false → rows_at (slice_set db t rows) u ≡ rows_at db u
apart db t u rows e = get_or-set_other db t u rows [] (λ at. grind (arith, eqb_tells))

-- rows have parents behind new rows of a table that keep what is there
stands_by : (tables : List TableInfo) (db : Tables) (t : ℕ) (rows : List Keyed) → ReferencesStand tables db
    → ((v : Value) → is_there v (rows_at db t) ≡ true → is_there v rows ≡ true)
    → (rows_at (slice_set db t rows) t ≡ rows → Each (HasParents (slice_set db t rows) (references tables t)) rows) → ReferencesStand tables (slice_set db t rows)
stands_by tables db t rows h keeps new u = by (in_or_out db t rows)
  where
    next : Tables
    next = slice_set db t rows

    more : rows_at next t ≡ rows → (v : Value) (p : ℕ) → is_there v (rows_at db p) ≡ true → is_there v (rows_at next p) ≡ true
    more is v p e = at (p == t) refl
      where
        at : (b : Bool) → (p == t) ≡ b → is_there v (rows_at next p) ≡ true
        at true k = let same : p ≡ t = eqb-true p t k in subst (λ q. is_there v (rows_at next q) ≡ true) (sym same) (ap (is_there v) is ∙ keeps v (subst (λ q. is_there v (rows_at db q) ≡ true) same e))
        at false k = ap (is_there v) (apart db t p rows k) ∙ e

    still : rows_at next t ≡ rows → (item : Keyed) → HasParents db (references tables u) item → HasParents next (references tables u) item
    still is item k = each_map (λ (r : Reference). is_there (column_of item.row r.column) (rows_at db r.parent) ≡ true) (λ (r : Reference). is_there (column_of item.row r.column) (rows_at next r.parent) ≡ true) (references tables u)
        (λ r e. more is (column_of item.row r.column) r.parent e) k

    here : rows_at next t ≡ rows → (b : Bool) → (u == t) ≡ b → Each (HasParents next (references tables u)) (rows_at next u)
    here is true k = let same : u ≡ t = eqb-true u t k in subst (λ q. Each (HasParents next (references tables q)) (rows_at next q)) (sym same) (subst (Each (HasParents next (references tables t))) (sym is) (new is))
    here is false k = subst (Each (HasParents next (references tables u))) (sym (apart db t u rows k)) (each_map (HasParents db (references tables u)) (HasParents next (references tables u)) (rows_at db u) (still is) (h u))

    by : (rows_at next t ≡ rows) ⊎ (next ≡ db) → Each (HasParents next (references tables u)) (rows_at next u)
    by (inl is) = here is (u == t) refl
    by (inr is) = subst (λ d. Each (HasParents d (references tables u)) (rows_at d u)) (sym is) (h u)

-- INSERT

put_any : (f : Keyed → Bool) (new : Keyed) (rows out : List Keyed) → put_row new rows ≡ Ok out → (list_any f rows ≡ true → list_any f out ≡ true) × (f new ≡ true → list_any f out ≡ true)
put_any f new [] out h = let is : new ∷ [] ≡ out = cc in ((λ e. cc), λ e. subst (λ l. list_any f l ≡ true) is (ap (λ b. b || false) e))
put_any f new (x ∷ xs) out h = by (key_order new.key x.key) (put_row new xs) h (λ rest. put_any f new xs rest)
  where
    either : (b c : Bool) → c ≡ true → (b || c) ≡ true
    either true c e = refl
    either false c e = e

    first : (b c : Bool) → b ≡ true → (b || c) ≡ true
    first b c e = ap (λ a. a || c) e

    passed : (b c d : Bool) → (c ≡ true → d ≡ true) → (b || c) ≡ true → (b || d) ≡ true
    passed true c d g e = refl
    passed false c d g e = g e

    by : (o : Ordering) (r : Result (List Keyed) End) → put_row_by o new x xs r ≡ Ok out → ((rest : List Keyed) → r ≡ Ok rest → (list_any f xs ≡ true → list_any f rest ≡ true) × (f new ≡ true → list_any f rest ≡ true))
        → ((f x || list_any f xs) ≡ true → list_any f out ≡ true) × (f new ≡ true → list_any f out ≡ true)
    by Less r e go = let is : new ∷ x ∷ xs ≡ out = cc in ((λ k. subst (λ l. list_any f l ≡ true) is (either (f new) (f x || list_any f xs) k)), λ k. subst (λ l. list_any f l ≡ true) is (first (f new) (f x || list_any f xs) k))
    by Equal r e go = cc
    by Greater (Ok rest) e go =
        let is : x ∷ rest ≡ out = cc in
        let k = go rest refl in
        ((λ a. subst (λ l. list_any f l ≡ true) is (passed (f x) (list_any f xs) (list_any f rest) k.0 a)), λ a. subst (λ l. list_any f l ≡ true) is (either (f x) (list_any f rest) (k.1 a)))
    by Greater (Err d) e go = cc

put_each : (P : Keyed → Type 0) (new : Keyed) (rows out : List Keyed) → put_row new rows ≡ Ok out → P new → Each P rows → Each P out
put_each P new [] out h p all = let is : new ∷ [] ≡ out = cc in subst (Each P) is (p, tt)
put_each P new (x ∷ xs) out h p all = by (key_order new.key x.key) (put_row new xs) h (λ rest e. put_each P new xs rest e p all.1)
  where
    by : (o : Ordering) (r : Result (List Keyed) End) → put_row_by o new x xs r ≡ Ok out → ((rest : List Keyed) → r ≡ Ok rest → Each P rest) → Each P out
    by Less r e go = let is : new ∷ x ∷ xs ≡ out = cc in subst (Each P) is (p, all)
    by Equal r e go = cc
    by Greater (Ok rest) e go = let is : x ∷ rest ≡ out = cc in subst (Each P) is (all.0, go rest refl)
    by Greater (Err d) e go = cc

new_has : (new : Keyed) (refs : List Reference) (db : Tables) → has_parents refs new db ≡ true → Each (λ (r : Reference). (is_own_parent new r || is_there (column_of new.row r.column) (rows_at db r.parent)) ≡ true) refs
new_has new [] db h = tt
new_has new (r ∷ rs) db h = let both = and_parts (is_own_parent new r || is_there (column_of new.row r.column) (rows_at db r.parent)) (has_parents rs new db) h in (both.0, new_has new rs db both.1)

inserted_stand : (tables : List TableInfo) (db : Tables) (t : ℕ) (new : Keyed) (rows : List Keyed) → ReferencesStand tables db → put_row new (rows_at db t) ≡ Ok rows → has_parents (references tables t) new db ≡ true
    → ReferencesStand tables (slice_set db t rows)
inserted_stand tables db t new rows h put all = stands_by tables db t rows h keeps fresh
  where
    next : Tables
    next = slice_set db t rows

    keeps : (v : Value) → is_there v (rows_at db t) ≡ true → is_there v rows ≡ true
    keeps v e = (put_any (has_key v) new (rows_at db t) rows put).0 e

    more : rows_at next t ≡ rows → (v : Value) (p : ℕ) → is_there v (rows_at db p) ≡ true → is_there v (rows_at next p) ≡ true
    more is v p e = at (p == t) refl
      where
        at : (b : Bool) → (p == t) ≡ b → is_there v (rows_at next p) ≡ true
        at true k = let same : p ≡ t = eqb-true p t k in subst (λ q. is_there v (rows_at next q) ≡ true) (sym same) (ap (is_there v) is ∙ keeps v (subst (λ q. is_there v (rows_at db q) ≡ true) same e))
        at false k = ap (is_there v) (apart db t p rows k) ∙ e

    one : rows_at next t ≡ rows → (r : Reference) → (r.table ≡ t) × (parent_of tables t r.column ≡ Some r.parent) → (is_own_parent new r || is_there (column_of new.row r.column) (rows_at db r.parent)) ≡ true
        → is_there (column_of new.row r.column) (rows_at next r.parent) ≡ true
    one is r at e = by (is_own_parent new r) refl e
      where
        by : (b : Bool) → is_own_parent new r ≡ b → (b || is_there (column_of new.row r.column) (rows_at db r.parent)) ≡ true → is_there (column_of new.row r.column) (rows_at next r.parent) ≡ true
        by true own k =
            let both = and_parts (r.parent == r.table) (has_key (column_of new.row r.column) new) own in
            let same : r.parent ≡ t = eqb-true r.parent r.table both.0 ∙ at.0 in
            subst (λ q. is_there (column_of new.row r.column) (rows_at next q) ≡ true) (sym same) (ap (is_there (column_of new.row r.column)) is ∙ (put_any (has_key (column_of new.row r.column)) new (rows_at db t) rows put).1 both.1)
        by false own k = more is (column_of new.row r.column) r.parent k

    fresh : rows_at next t ≡ rows → Each (HasParents next (references tables t)) rows
    fresh is = put_each (HasParents next (references tables t)) new (rows_at db t) rows put
        (both_each (λ (r : Reference). (r.table ≡ t) × (parent_of tables t r.column ≡ Some r.parent)) (λ (r : Reference). (is_own_parent new r || is_there (column_of new.row r.column) (rows_at db r.parent)) ≡ true)
        (λ (r : Reference). is_there (column_of new.row r.column) (rows_at next r.parent) ≡ true) (references tables t) (one is) (refs_in tables t) (new_has new (references tables t) db all))
        (each_map (HasParents db (references tables t)) (HasParents next (references tables t)) (rows_at db t)
        (λ item k. each_map (λ (r : Reference). is_there (column_of item.row r.column) (rows_at db r.parent) ≡ true) (λ (r : Reference). is_there (column_of item.row r.column) (rows_at next r.parent) ≡ true) (references tables t)
        (λ r e. more is (column_of item.row r.column) r.parent e) k) (h t))

-- UPDATE

updated_any : (new : New) (tests : List Test) (v : Value) (rows out : List Keyed) → updated new tests rows ≡ Ok out → is_there v out ≡ is_there v rows
updated_any new tests v [] out h = let is : [] ≡ out = cc in ap (is_there v) (sym is)
updated_any new tests v (x ∷ xs) out h = by (λ rest e. updated_any new tests v xs rest e) (meets tests x.row) h
  where
    kept : ((rest : List Keyed) → updated new tests xs ≡ Ok rest → is_there v rest ≡ is_there v xs) → (head : Keyed) → head.key ≡ x.key → then_do (updated new tests xs) (λ rest. Ok (head ∷ rest)) ≡ Ok out → is_there v out ≡ is_there v (x ∷ xs)
    kept go head k e =
        let rest = goes_to (updated new tests xs) (λ rest. Ok (head ∷ rest)) out e in
        let is : head ∷ rest.0 ≡ out = let g = rest.2 in cc in
        ap (is_there v) (sym is) ∙ (ap (λ key. list_all (λ w. is_eq (value_order w v)) key || is_there v rest.0) k ∙ ap (λ b. has_key v x || b) (go rest.0 rest.1))

    by : ((rest : List Keyed) → updated new tests xs ≡ Ok rest → is_there v rest ≡ is_there v xs) → (b : Bool) → (if b then then_do (new x.row) (λ row. then_do (updated new tests xs) (λ rest. Ok (record x { row = row } ∷ rest))) else then_do (updated new tests xs) (λ rest. Ok (x ∷ rest))) ≡ Ok out → is_there v out ≡ is_there v (x ∷ xs)
    by go true e = let made = goes_to (new x.row) (λ row. then_do (updated new tests xs) (λ rest. Ok (record x { row = row } ∷ rest))) out e in kept go (record x { row = made.0 }) refl made.2
    by go false e = kept go x refl e

updated_each : (new : New) (tests : List Test) (P : Keyed → Type 0) → ((item : Keyed) (made : List Value) → P item → new item.row ≡ Ok made → P (record item { row = made })) → (rows out : List Keyed) → updated new tests rows ≡ Ok out → Each P rows → Each P out
updated_each new tests P f [] out h all = let is : [] ≡ out = cc in subst (Each P) is tt
updated_each new tests P f (x ∷ xs) out h all = by (λ rest e. updated_each new tests P f xs rest e all.1) (meets tests x.row) h
  where
    kept : ((rest : List Keyed) → updated new tests xs ≡ Ok rest → Each P rest) → (head : Keyed) → P head → then_do (updated new tests xs) (λ rest. Ok (head ∷ rest)) ≡ Ok out → Each P out
    kept go head p e =
        let rest = goes_to (updated new tests xs) (λ rest. Ok (head ∷ rest)) out e in
        let is : head ∷ rest.0 ≡ out = let g = rest.2 in cc in
        subst (Each P) is (p, go rest.0 rest.1)

    by : ((rest : List Keyed) → updated new tests xs ≡ Ok rest → Each P rest) → (b : Bool) → (if b then then_do (new x.row) (λ row. then_do (updated new tests xs) (λ rest. Ok (record x { row = row } ∷ rest))) else then_do (updated new tests xs) (λ rest. Ok (x ∷ rest))) ≡ Ok out → Each P out
    by go true e = let made = goes_to (new x.row) (λ row. then_do (updated new tests xs) (λ rest. Ok (record x { row = row } ∷ rest))) out e in kept go (record x { row = made.0 }) (f x made.0 all.0 made.1) made.2
    by go false e = kept go x all.0 e

-- a value set in a column is there, or the row was too short
set_or : (row : List Value) (c : ℕ) (w : Value) → (column_of (slice_set row c w) c ≡ w) ⊎ (column_of (slice_set row c w) c ≡ column_of row c)
set_or [] c w = inr refl
set_or (x ∷ xs) zero w = inl refl
set_or (x ∷ xs) (suc c) w = set_or xs c w

set_parents : (tables : List TableInfo) (t : ℕ) (db : Tables) (ks : List ℕ) (env : Env) (was : List Value) (r : Reference) → parent_of tables t r.column ≡ Some r.parent → (items : List RSetItem) (row made : List Value)
    → is_there (column_of row r.column) (rows_at db r.parent) ≡ true → set_row_by (fit_in tables t db) ks env was items row ≡ Ok made → is_there (column_of made r.column) (rows_at db r.parent) ≡ true
set_parents tables t db ks env was r at [] row made h is = let same : row ≡ made = cc in subst (λ l. is_there (column_of l r.column) (rows_at db r.parent) ≡ true) same h
set_parents tables t db ks env was r at (i ∷ items) row made h is =
    let value = goes_to (value_of i.right env was) _ made is in
    let fits = goes_to (fit_in tables t db i.column value.0) (λ w. set_row_by (fit_in tables t db) ks env was items (with_column ks i.column w row)) made value.2 in
    set_parents tables t db ks env was r at items (with_column ks i.column fits.0 row) made (step value.0 fits.0 fits.1) fits.2
  where
    tested : (b : Bool) (x w : Value) (p : ℕ) → is_there x (rows_at db p) ≡ b → ◌≡◌ {A = Result Value End} (if b then Ok x else Err MissingParent) (Ok w) → is_there w (rows_at db p) ≡ true
    tested true x w p e k = let same : x ≡ w = cc in subst (λ y. is_there y (rows_at db p) ≡ true) same e
    tested false x w p e k = cc

    there : (o : Option ℕ) (x w : Value) (p : ℕ) → o ≡ Some p → with_parent o db x ≡ Ok w → is_there w (rows_at db p) ≡ true
    there None x w p e k = cc
    there (Some q) x w p e k = let same : q ≡ p = cc in tested (is_there x (rows_at db p)) x w p refl (subst (λ n. with_parent (Some n) db x ≡ Ok w) same k)

    set : (v w : Value) → fit_in tables t db i.column v ≡ Ok w → (b : Bool) → (r.column == i.column) ≡ b → is_there (column_of (slice_set row i.column w) r.column) (rows_at db r.parent) ≡ true
    set v w f true e =
        let same : r.column ≡ i.column = eqb-true r.column i.column e in
        let x = goes_to (fit (columns_at tables t) i.column v) (with_parent (parent_of tables t i.column) db) w f in
        let parent : parent_of tables t i.column ≡ Some r.parent = ap (parent_of tables t) (sym same) ∙ at in
        subst (λ c. is_there (column_of (slice_set row c w) r.column) (rows_at db r.parent) ≡ true) same (either (set_or row r.column w) (there (parent_of tables t i.column) x.0 w r.parent parent x.2))
      where
        either : (column_of (slice_set row r.column w) r.column ≡ w) ⊎ (column_of (slice_set row r.column w) r.column ≡ column_of row r.column) → is_there w (rows_at db r.parent) ≡ true
            → is_there (column_of (slice_set row r.column w) r.column) (rows_at db r.parent) ≡ true
        either (inl e) k = ap (λ y. is_there y (rows_at db r.parent)) e ∙ k
        either (inr e) k = ap (λ y. is_there y (rows_at db r.parent)) e ∙ h
    set v w f false e = ap (λ y. is_there y (rows_at db r.parent)) (get_or-set_other row i.column r.column w (Int (pos 0)) (λ at. grind (arith, eqb_tells))) ∙ h

    step : (v w : Value) → fit_in tables t db i.column v ≡ Ok w → is_there (column_of (with_column ks i.column w row) r.column) (rows_at db r.parent) ≡ true
    step v w f = by (list_any (λ k. k == i.column) ks)
      where
        by : (b : Bool) → is_there (column_of (if b then row else slice_set row i.column w) r.column) (rows_at db r.parent) ≡ true
        by true = h
        by false = set v w f (r.column == i.column) refl

updated_stand : (tables : List TableInfo) (db : Tables) (t : ℕ) (env : Env) (items : List RSetItem) (tests : List Test) (rows : List Keyed) → ReferencesStand tables db
    → updated (λ row. set_row_by (fit_in tables t db) (key_columns tables t) env row items row) tests (rows_at db t) ≡ Ok rows → ReferencesStand tables (slice_set db t rows)
updated_stand tables db t env items tests rows h is = stands_by tables db t rows h (λ v e. same v ∙ e) (λ here. each_map (HasParents db (references tables t)) (HasParents next (references tables t)) rows (λ item k. moved here item k) old)
  where
    new : New
    new = λ row. set_row_by (fit_in tables t db) (key_columns tables t) env row items row

    next : Tables
    next = slice_set db t rows

    same : (v : Value) → is_there v rows ≡ is_there v (rows_at db t)
    same v = updated_any new tests v (rows_at db t) rows is

    old : Each (HasParents db (references tables t)) rows
    old = updated_each new tests (HasParents db (references tables t)) (λ item made k m.
        both_each (λ (r : Reference). (r.table ≡ t) × (parent_of tables t r.column ≡ Some r.parent)) (λ (r : Reference). is_there (column_of item.row r.column) (rows_at db r.parent) ≡ true)
        (λ (r : Reference). is_there (column_of made r.column) (rows_at db r.parent) ≡ true) (references tables t)
        (λ r at e. set_parents tables t db (key_columns tables t) env item.row r at.1 items item.row made e m) (refs_in tables t) k) (rows_at db t) rows is (h t)

    moved : rows_at next t ≡ rows → (item : Keyed) → HasParents db (references tables t) item → HasParents next (references tables t) item
    moved here item k = each_map (λ (r : Reference). is_there (column_of item.row r.column) (rows_at db r.parent) ≡ true) (λ (r : Reference). is_there (column_of item.row r.column) (rows_at next r.parent) ≡ true) (references tables t)
        (λ r e. by r (r.parent == t) refl e) k
      where
        by : (r : Reference) (b : Bool) → (r.parent == t) ≡ b → is_there (column_of item.row r.column) (rows_at db r.parent) ≡ true → is_there (column_of item.row r.column) (rows_at next r.parent) ≡ true
        by r true e k =
            let at : r.parent ≡ t = eqb-true r.parent t e in
            subst (λ q. is_there (column_of item.row r.column) (rows_at next q) ≡ true) (sym at)
            (ap (is_there (column_of item.row r.column)) here ∙ (same (column_of item.row r.column) ∙ subst (λ q. is_there (column_of item.row r.column) (rows_at db q) ≡ true) at k))
        by r false e k = ap (is_there (column_of item.row r.column)) (apart db t r.parent rows e) ∙ k

-- DELETE

-- where no row that matches has it, one of the others has
stays : (f : Keyed → Bool) (tests : List Test) (rows : List Keyed) → list_any f rows ≡ true → list_any f (matching tests rows) ≡ false → list_any f (without tests rows) ≡ true
stays f tests [] h k = h
stays f tests (x ∷ xs) h k = by (meets tests x.row) h k (stays f tests xs)
  where
    dropped : (b c : Bool) → (b || c) ≡ true → b ≡ false → c ≡ true
    dropped true c e k = cc
    dropped false c e k = e

    more : (b c d : Bool) → (b || c) ≡ true → (c ≡ true → d ≡ true) → (b || d) ≡ true
    more true c d e g = refl
    more false c d e g = g e

    by : (b : Bool) → (f x || list_any f xs) ≡ true → list_any f (cond b (x ∷ matching tests xs) (matching tests xs)) ≡ false → (list_any f xs ≡ true → list_any f (matching tests xs) ≡ false → list_any f (without tests xs) ≡ true)
        → list_any f (cond (not b) (x ∷ without tests xs) (without tests xs)) ≡ true
    by true e m go = let both = or_parts (f x) (list_any f (matching tests xs)) m in go (dropped (f x) (list_any f xs) e both.0) both.1
    by false e m go = more (f x) (list_any f xs) (list_any f (without tests xs)) e (λ k. go k m)

turned_eq : (o : Ordering) → is_eq (ordering_reverse o) ≡ is_eq o
turned_eq Less = refl
turned_eq Equal = refl
turned_eq Greater = refl

-- a row's key is a value exactly where a column with the value holds the key
holds_has : (c : ℕ) (key : List Value) (item : Keyed) → list_all (λ w. is_eq (value_order w (column_of item.row c))) key ≡ holds_key c key item
holds_has c [] item = refl
holds_has c (w ∷ ws) item =
    ap (λ b. b && list_all (λ w. is_eq (value_order w (column_of item.row c))) ws) (ap is_eq (value_order_total.antisymm w (column_of item.row c)) ∙ turned_eq (value_order (column_of item.row c) w))
    ∙ ap (λ b. is_eq (value_order (column_of item.row c) w) && b) (holds_has c ws item)

left_same : (db : Tables) (t : ℕ) (tests : List Test) → rows_at (slice_set db t (without tests (rows_at db t))) t ≡ without tests (rows_at db t)
left_same [] t tests = refl
left_same (x ∷ xs) zero tests = refl
left_same (x ∷ xs) (suc t) tests = left_same xs t tests

left_is : (db : Tables) (t : ℕ) (tests : List Test) (u : ℕ) → rows_at (slice_set db t (without tests (rows_at db t))) u ≡ left_in t tests db u
left_is db t tests u = by (u == t) refl
  where
    by : (b : Bool) → (u == t) ≡ b → rows_at (slice_set db t (without tests (rows_at db t))) u ≡ (if b then without tests (rows_at db u) else rows_at db u)
    by true e = let at : u ≡ t = eqb-true u t e in subst (λ q. rows_at (slice_set db t (without tests (rows_at db t))) q ≡ without tests (rows_at db q)) (sym at) (left_same db t tests)
    by false e = apart db t u (without tests (rows_at db t)) e

deleted_stand : (tables : List TableInfo) (db : Tables) (t : ℕ) (tests : List Test) → ReferencesStand tables db → has_children (references_to tables t) t tests db (matching tests (rows_at db t)) ≡ false
    → ReferencesStand tables (slice_set db t (without tests (rows_at db t)))
deleted_stand tables db t tests h none u = subst (Each (HasParents next (references tables u))) (sym (left_is db t tests u)) each
  where
    next : Tables
    next = slice_set db t (without tests (rows_at db t))

    left : List Keyed
    left = left_in t tests db u

    gone : List Keyed
    gone = matching tests (rows_at db t)

    old : Each (HasParents db (references tables u)) left
    old = by (u == t)
      where
        by : (b : Bool) → Each (HasParents db (references tables u)) (if b then without tests (rows_at db u) else rows_at db u)
        by true = each_filter (HasParents db (references tables u)) (λ item. not (meets tests item.row)) (rows_at db u) (h u)
        by false = h u

    one : (r : Reference) → (r.table ≡ u) × (parent_of tables u r.column ≡ Some r.parent)
        → ((r.parent == t) ≡ true → list_any (λ (item : Keyed). list_any (holds_key r.column item.key) (left_in t tests db r.table)) gone ≡ false)
        → Each (λ (item : Keyed). is_there (column_of item.row r.column) (rows_at db r.parent) ≡ true) left → Each (λ (item : Keyed). is_there (column_of item.row r.column) (rows_at next r.parent) ≡ true) left
    one r at f k = by (r.parent == t) refl
      where
        by : (b : Bool) → (r.parent == t) ≡ b → Each (λ (item : Keyed). is_there (column_of item.row r.column) (rows_at next r.parent) ≡ true) left
        by false e = each_map (λ (item : Keyed). is_there (column_of item.row r.column) (rows_at db r.parent) ≡ true) (λ (item : Keyed). is_there (column_of item.row r.column) (rows_at next r.parent) ≡ true) left
            (λ item a. ap (is_there (column_of item.row r.column)) (apart db t r.parent (without tests (rows_at db t)) e) ∙ a) k
        by true e =
            let same : r.parent ≡ t = eqb-true r.parent t e in
            let no_child : Each (λ (q : Keyed). list_any (holds_key r.column q.key) left ≡ false) gone =
            none_of (λ (q : Keyed). list_any (holds_key r.column q.key) left) gone (subst (λ v. list_any (λ (q : Keyed). list_any (holds_key r.column q.key) (left_in t tests db v)) gone ≡ false) at.0 (f e)) in
            let by_item : Each (λ (item : Keyed). Each (λ (q : Keyed). holds_key r.column q.key item ≡ false) gone) left =
            swapped (λ (q : Keyed) (item : Keyed). holds_key r.column q.key item ≡ false) gone left
            (each_map (λ (q : Keyed). list_any (holds_key r.column q.key) left ≡ false) (λ (q : Keyed). Each (λ (item : Keyed). holds_key r.column q.key item ≡ false) left) gone (λ q a. none_of (holds_key r.column q.key) left a) no_child) in
            both_each (λ (item : Keyed). Each (λ (q : Keyed). holds_key r.column q.key item ≡ false) gone) (λ (item : Keyed). is_there (column_of item.row r.column) (rows_at db r.parent) ≡ true)
            (λ (item : Keyed). is_there (column_of item.row r.column) (rows_at next r.parent) ≡ true) left
            (λ item a b. subst (λ p. is_there (column_of item.row r.column) (rows_at next p) ≡ true) (sym same)
            (ap (is_there (column_of item.row r.column)) (left_same db t tests)
            ∙ stays (has_key (column_of item.row r.column)) tests (rows_at db t) (subst (λ p. is_there (column_of item.row r.column) (rows_at db p) ≡ true) same b)
            (any_none (has_key (column_of item.row r.column)) gone (each_map (λ (q : Keyed). holds_key r.column q.key item ≡ false) (λ (q : Keyed). has_key (column_of item.row r.column) q ≡ false) gone
            (λ q n. holds_has r.column q.key item ∙ n) a)))) by_item k

    each : Each (HasParents next (references tables u)) left
    each = swapped (λ (r : Reference) (item : Keyed). is_there (column_of item.row r.column) (rows_at next r.parent) ≡ true) (references tables u) left
        (three (references tables u) (refs_in tables u) (none_to tables t u (λ r. list_any (λ (item : Keyed). list_any (holds_key r.column item.key) (left_in t tests db r.table)) gone) none)
        (swapped (λ (item : Keyed) (r : Reference). is_there (column_of item.row r.column) (rows_at db r.parent) ≡ true) left (references tables u) old))
      where
        three : (rs : List Reference) → Each (λ (r : Reference). (r.table ≡ u) × (parent_of tables u r.column ≡ Some r.parent)) rs
            → Each (λ (r : Reference). (r.parent == t) ≡ true → list_any (λ (item : Keyed). list_any (holds_key r.column item.key) (left_in t tests db r.table)) gone ≡ false) rs
            → Each (λ (r : Reference). Each (λ (item : Keyed). is_there (column_of item.row r.column) (rows_at db r.parent) ≡ true) left) rs
            → Each (λ (r : Reference). Each (λ (item : Keyed). is_there (column_of item.row r.column) (rows_at next r.parent) ≡ true) left) rs
        three [] a b c = tt
        three (r ∷ rs) a b c = (one r a.0 b.0 c.0, three rs a.1 b.1 c.1)

-- All statements

state_is : {s next : State} → ◌≡◌ {A = Result State End} (Ok s) (Ok next) → s ≡ next
state_is h = cc

-- a test that was passed
passed : (b : Bool) (e : End) (st next : State) → ◌≡◌ {A = Result State End} (if b then Ok st else Err e) (Ok next) → b ≡ true
passed true e st next h = refl
passed false e st next h = cc

failed : (b : Bool) (e : End) (st next : State) → ◌≡◌ {A = Result State End} (if b then Err e else Ok st) (Ok next) → b ≡ false
failed true e st next h = cc
failed false e st next h = refl

same_tables : (tables : List TableInfo) (st next : State) (out : Result State End) → KeepsTables out st → out ≡ Ok next → ReferencesStand tables st.tables → ReferencesStand tables next.tables
same_tables tables st next (Ok s) k is h = let same : s ≡ next = state_is is in subst (ReferencesStand tables) (sym k ∙ ap (λ (s : State). s.tables) same) h
same_tables tables st next (Err e) k is h = cc

pub references_kept : ReferencesKept
references_kept tables (Insert t es) st next h is =
    let new = goes_to (new_row (columns_at tables t) es st.env) _ next is in
    let put = goes_to (put_row (keyed (key_columns tables t) new.0) (rows_at st.tables t)) _ next new.2 in
    let all = has_parents (references tables t) (keyed (key_columns tables t) new.0) st.tables in
    let same : with_rows t put.0 true st ≡ next = state_is (whenever all MissingParent (with_rows t put.0 true st) next put.2) in
    subst (λ (s : State). ReferencesStand tables s.tables) same (inserted_stand tables st.tables t (keyed (key_columns tables t) new.0) put.0 h put.1 (passed all MissingParent (with_rows t put.0 true st) next put.2))
references_kept tables (Update t items conds) st next h is =
    let tests = goes_to (tests_of (key_columns tables t) conds st.env) _ next is in
    let rows = goes_to (updated (λ row. set_row_by (fit_in tables t st.tables) (key_columns tables t) st.env row items row) tests.0 (rows_at st.tables t)) _ next tests.2 in
    subst (λ (s : State). ReferencesStand tables s.tables) (state_is rows.2) (updated_stand tables st.tables t st.env items tests.0 rows.0 h rows.1)
references_kept tables (Delete t conds) st next h is =
    let tests = goes_to (tests_of (key_columns tables t) conds st.env) _ next is in
    let some = has_children (references_to tables t) t tests.0 st.tables (matching_in t tests.0 st) in
    let behind : State = with_rows t (without tests.0 (rows_at st.tables t)) (is_some_row (matching_in t tests.0 st)) st in
    subst (λ (s : State). ReferencesStand tables s.tables) (state_is (unless some HasChildren behind next tests.2)) (deleted_stand tables st.tables t tests.0 h (failed some HasChildren behind next tests.2))
references_kept tables (Assign x e) st next h is = same_tables tables st next (itself {X = RStmt} tables (Assign x e) st) (then_keeps (value_of e st.env []) _ st (λ v. refl)) is h
references_kept tables (Select cs xs t conds sorts offset) st next h is =
    same_tables tables st next (itself {X = RStmt} tables (Select cs xs t conds sorts offset) st) (then_keeps (tests_of (key_columns tables t) conds st.env) _ st (λ tests. then_keeps (offset_of offset st.env) _ st (λ at. refl))) is h
references_kept tables (Total agg x t conds) st next h is =
    same_tables tables st next (itself {X = RStmt} tables (Total agg x t conds) st) (then_keeps (tests_of (key_columns tables t) conds st.env) _ st (λ tests. then_keeps (aggregate agg (matching_in t tests st)) _ st (λ v. refl))) is h
references_kept tables (ForSelect x once cs t conds sorts body) st next h is =
    same_tables tables st next (itself {X = RStmt} tables (ForSelect x once cs t conds sorts body) st)
    (then_keeps (then_do (tests_of (key_columns tables t) conds st.env) (λ tests. Ok (fixed once cs sorts (matching_in t tests st)))) _ st (λ rows. refl)) is h
references_kept tables (ForRows x y body) st next h is = same_tables tables st next (itself {X = RStmt} tables (ForRows x y body) st) refl is h
references_kept tables (Branch e ys ns) st next h is = same_tables tables st next (itself {X = RStmt} tables (Branch e ys ns) st) (then_keeps (value_of e st.env []) _ st (λ v. refl)) is h
references_kept tables (Print es) st next h is = same_tables tables st next (itself {X = RStmt} tables (Print es) st) (then_keeps (values_of es st.env) _ st (λ vs. refl)) is h
references_kept tables (Rollback reason) st next h is = cc
