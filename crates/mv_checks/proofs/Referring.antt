-- What statements check of parents and children, as the code puts it together.
use Rattle.std.proofs.Common.{◌≡◌, ◌<◌, ◌≤◌, ◌+◌, ℕ, zero, suc, ◌==◌, Bool, true, false, not, List, [], ◌∷◌, ◌++◌, Option, Some, None, Result, Ok, Err, All, drop, map, length, slice_get, slice_index_or, if◌then◌else◌, refl, sym, ap, subst, ◌∙◌, arith, append_assoc, append-nil}
use Rattle.std.specs.Prelude.{◌&&◌, ◌||◌}
use Rattle.std.specs.List.{filter, flat_map, list_any}
use Rattle.std.specs.Option.{is_some}
use Rattle.std.proofs.lemmas.Grind.{flat_map-append}
use Rattle.std.proofs.lemmas.Bool.{eqb-true}
use Rattle.std.proofs.lemmas.List.{drop_more, map-append}
use Rattle.std.proofs.lemmas.List.Elements.{All-map, filter-append}
use Rattle.mv_values.specs.declared.value.Value.{Value}
use Rattle.mv_values.specs.declared.op.Op.TheVariants.{Eq}
use Rattle.mv_values.specs.declared.rows.Keyed.{Keyed}
use Rattle.mv_values.specs.declared.schema.Column.{Column}
use Rattle.mv_values.specs.declared.schema.TableInfo.{TableInfo}
use Rattle.mv_values.specs.declared.calls.End.{End}
use Rattle.mv_values.specs.declared.calls.End.TheVariants.{MissingParent, HasChildren}
use Rattle.mv_values.specs.Columns.{column_of}
use Rattle.mv_values.specs.Keys.{keys}
use Rattle.mv_values.specs.References.{Reference, parent_in, parent_of, has_key, reference, references, references_from, all_references, references_to}
use Rattle.mv_values.specs.Tables.{columns_at, key_columns}
use Rattle.mv_catalog.specs.declared.resolved.RSetItem.{RSetItem}
use Rattle.mv_catalog.specs.Text.{IsTable, HaveParents}
use Rattle.mv_catalog.proofs.References.{parents_within}
use Rattle.mv_eval.specs.declared.state.Env.{Env}
use Rattle.mv_eval.specs.References.{is_own_parent}
use Rattle.mv_eval.specs.Rows.{test_on, IsPlaced}
use Rattle.mv_eval.proofs.Holding.{key_tests_placed}
use Rattle.mv_recorded.specs.Asking.{Check, faults, needs, forbids, parent_pred, child_pred, value_checks, item_checks, update_checks, delete_checks}
use Rattle.mv_recorded.specs.Own.{Each}
use Rattle.mv_recorded.proofs.Inverting.{each_join}
use Rattle.mv_recorded.proofs.Matching.{key_placed}
use Rattle.mv_checks.specs.declared.check.Check as code
use Rattle.mv_checks.specs.declared.check.Check.TheVariants as code'
use Rattle.mv_checks.specs.declared.children.Child.{Child}
use Rattle.mv_checks.specs.Checking.{meant, parent_checks, row_checks, child_checks, reference_to, MayAsk}

-- Lists of checks

meant_push : (found : List (List Value)) (old new : List code.Check) (c : code.Check) → new ≡ old ++ c ∷ [] → map (meant found) new ≡ map (meant found) old ++ meant found c ∷ []
meant_push found old new c is = ap (map (meant found)) is ∙ map-append (meant found) old (c ∷ [])

-- what is added comes off what is left
pub added_on : {A : Type 0} (old new a rest all whole : List A) → new ≡ old ++ a → all ≡ a ++ rest → old ++ all ≡ whole → new ++ rest ≡ whole
added_on old new a rest all whole is splits h = ap (λ l. l ++ rest) is ∙ (append_assoc old a rest ∙ (ap (λ l. old ++ l) (sym splits) ∙ h))

-- INSERT: parents of a new row

parent_one : (tables : List TableInfo) (item : Keyed) (r : Reference) (b : Bool) → is_own_parent item r ≡ b
    → parent_checks tables item (r ∷ []) ≡ (if b then [] else needs (parent_pred tables r.parent (column_of item.row r.column)) MissingParent ∷ [])
parent_one tables item r true e = rw e refl
parent_one tables item r false e = rw e refl

pub parent_none : (tables : List TableInfo) (item : Keyed) (t c : ℕ) (o : Option ℕ) (cs : List Check) → o ≡ None → cs ≡ cs ++ parent_checks tables item (reference t c o)
parent_none tables item t c o cs is = subst (λ p. cs ≡ cs ++ parent_checks tables item (reference t c p)) (sym is) (sym (append-nil cs))

pub parent_own : (tables : List TableInfo) (item : Keyed) (t c p : ℕ) (o : Option ℕ) (v : Value) (cs : List Check) → o ≡ Some p → v ≡ column_of item.row c → ((p == t) && has_key v item) ≡ true
    → cs ≡ cs ++ parent_checks tables item (reference t c o)
parent_own tables item t c p o v cs is at own =
    let r : Reference = record { table = t; column = c; parent = p } in
    let here : is_own_parent item r ≡ true = ap (λ w. (p == t) && has_key w item) (sym at) ∙ own in
    subst (λ q. cs ≡ cs ++ parent_checks tables item (reference t c q)) (sym is) (sym (append-nil cs) ∙ ap (λ l. cs ++ l) (sym (parent_one tables item r true here)))

pub parent_needed : (tables : List TableInfo) (item : Keyed) (t c p : ℕ) (o : Option ℕ) (v : Value) (old new : List code.Check) → o ≡ Some p → v ≡ column_of item.row c → ((p == t) && has_key v item) ≡ false
    → new ≡ old ++ code'.Needs (parent_pred tables p v) MissingParent ∷ [] → map (meant []) new ≡ map (meant []) old ++ parent_checks tables item (reference t c o)
parent_needed tables item t c p o v old new is at own pushed =
    let r : Reference = record { table = t; column = c; parent = p } in
    let here : is_own_parent item r ≡ false = ap (λ w. (p == t) && has_key w item) (sym at) ∙ own in
    let one : needs (parent_pred tables p v) MissingParent ∷ [] ≡ parent_checks tables item (r ∷ []) = ap (λ w. needs (parent_pred tables p w) MissingParent ∷ []) at ∙ sym (parent_one tables item r false here) in
    subst (λ q. map (meant []) new ≡ map (meant []) old ++ parent_checks tables item (reference t c q)) (sym is)
    (meant_push [] old new (code'.Needs (parent_pred tables p v) MissingParent) pushed ∙ ap (λ l. map (meant []) old ++ l) one)

pub parents_both : (tables : List TableInfo) (item : Keyed) (xs ys : List Reference) → parent_checks tables item (xs ++ ys) ≡ parent_checks tables item xs ++ parent_checks tables item ys
parents_both tables item xs ys =
    let other : Reference → Bool = λ r. not (is_own_parent item r) in
    let check : Reference → Check = λ r. needs (parent_pred tables r.parent (column_of item.row r.column)) MissingParent in
    ap (map check) (filter-append other xs ys) ∙ map-append check (filter other xs) (filter other ys)

-- UPDATE: values

pub value_faults : (tables : List TableInfo) (o : Option ℕ) (r : Result Value End) (e : End) (old new : List code.Check) → r ≡ Err e → new ≡ old ++ code'.Faults e ∷ [] → map (meant []) new ≡ map (meant []) old ++ value_checks tables o r
value_faults tables o r e old new is pushed = subst (λ q. map (meant []) new ≡ map (meant []) old ++ value_checks tables o q) (sym is) (meant_push [] old new (code'.Faults e) pushed)

pub value_free : (tables : List TableInfo) (o : Option ℕ) (r : Result Value End) (v : Value) (cs : List Check) → r ≡ Ok v → o ≡ None → cs ≡ cs ++ value_checks tables o r
value_free tables o r v cs is none =
    subst (λ q. cs ≡ cs ++ value_checks tables o q) (sym is) (subst (λ p. cs ≡ cs ++ value_checks tables p (Ok v)) (sym none) (sym (append-nil cs)))

pub value_needs : (tables : List TableInfo) (o : Option ℕ) (r : Result Value End) (v : Value) (p : ℕ) (old new : List code.Check) → r ≡ Ok v → o ≡ Some p → new ≡ old ++ code'.Needs (parent_pred tables p v) MissingParent ∷ []
    → map (meant []) new ≡ map (meant []) old ++ value_checks tables o r
value_needs tables o r v p old new is some pushed =
    subst (λ q. map (meant []) new ≡ map (meant []) old ++ value_checks tables o q) (sym is)
    (subst (λ u. map (meant []) new ≡ map (meant []) old ++ value_checks tables u (Ok v)) (sym some) (meant_push [] old new (code'.Needs (parent_pred tables p v) MissingParent) pushed))

-- no column with REFERENCES is set
pub none_set : (tables : List TableInfo) (t : ℕ) (items : List RSetItem) → list_any (λ (i : RSetItem). is_some (parent_of tables t i.column)) items ≡ false → Each (λ (i : RSetItem). parent_of tables t i.column ≡ None) items
none_set tables t [] h = tt
none_set tables t (i ∷ is) h = by (parent_of tables t i.column) refl (λ k. none_set tables t is k) h
  where
    sets : List RSetItem → Bool
    sets js = list_any (λ (j : RSetItem). is_some (parent_of tables t j.column)) js

    by : (o : Option ℕ) → parent_of tables t i.column ≡ o → (sets is ≡ false → Each (λ (j : RSetItem). parent_of tables t j.column ≡ None) is) → (is_some o || sets is) ≡ false → Each (λ (j : RSetItem). parent_of tables t j.column ≡ None) (i ∷ is)
    by None e rest k = (e, rest k)
    by (Some p) e rest k = cc

-- DELETE: children

refers_one : (t : ℕ) (r : Reference) (b : Bool) → (r.parent == t) ≡ b → filter (λ (x : Reference). x.parent == t) (r ∷ []) ≡ (if b then r ∷ [] else [])
refers_one t r true e = rw e refl
refers_one t r false e = rw e refl

pub child_none : (t u c : ℕ) (o : Option ℕ) (rs : List Reference) → o ≡ None → rs ≡ rs ++ filter (λ (r : Reference). r.parent == t) (reference u c o)
child_none t u c o rs is = subst (λ p. rs ≡ rs ++ filter (λ (r : Reference). r.parent == t) (reference u c p)) (sym is) (sym (append-nil rs))

pub child_elsewhere : (t u c p : ℕ) (o : Option ℕ) (rs : List Reference) → o ≡ Some p → (p == t) ≡ false → rs ≡ rs ++ filter (λ (r : Reference). r.parent == t) (reference u c o)
child_elsewhere t u c p o rs is off =
    let r : Reference = record { table = u; column = c; parent = p } in
    subst (λ q. rs ≡ rs ++ filter (λ (x : Reference). x.parent == t) (reference u c q)) (sym is) (sym (append-nil rs) ∙ ap (λ l. rs ++ l) (sym (refers_one t r false off)))

pub child_here : (t u c p : ℕ) (o : Option ℕ) (old new : List Child) → o ≡ Some p → (p == t) ≡ true → new ≡ old ++ record { table = u; column = c } ∷ []
    → map (reference_to t) new ≡ map (reference_to t) old ++ filter (λ (r : Reference). r.parent == t) (reference u c o)
child_here t u c p o old new is on pushed =
    let r : Reference = record { table = u; column = c; parent = p } in
    let same : t ≡ p = sym (eqb-true p t on) in
    let one : record { table = u; column = c; parent = t } ∷ [] ≡ r ∷ [] = ap (λ q. record { table = u; column = c; parent = q } ∷ []) same in
    subst (λ q. map (reference_to t) new ≡ map (reference_to t) old ++ filter (λ (x : Reference). x.parent == t) (reference u c q)) (sym is)
    (ap (map (reference_to t)) pushed ∙ (map-append (reference_to t) old (record { table = u; column = c } ∷ []) ∙ ap (λ l. map (reference_to t) old ++ l) (one ∙ sym (refers_one t r true on))))

pub refers_both : (t : ℕ) (xs ys : List Reference) → filter (λ (r : Reference). r.parent == t) (xs ++ ys) ≡ filter (λ (r : Reference). r.parent == t) xs ++ filter (λ (r : Reference). r.parent == t) ys
refers_both t xs ys = filter-append (λ (r : Reference). r.parent == t) xs ys

-- by the keys of rows, as DELETE is defined
by_keys : (tables : List TableInfo) (t : ℕ) (found : List (List Value)) (r : Reference) (rows : List Keyed)
    → map (λ key. forbids (child_pred tables r.table r.column key) (if r.table == t then found else []) HasChildren) (keys rows) ≡ map (λ (item : Keyed). forbids (child_pred tables r.table r.column item.key) (if r.table == t then found else []) HasChildren) rows
by_keys tables t found r [] = refl
by_keys tables t found r (x ∷ xs) = ap (λ l. forbids (child_pred tables r.table r.column x.key) (if r.table == t then found else []) HasChildren ∷ l) (by_keys tables t found r xs)

pub delete_same : (tables : List TableInfo) (t : ℕ) (rows : List Keyed) → flat_map (child_checks tables t (keys rows)) (references_to tables t) ≡ delete_checks tables t rows
delete_same tables t rows = each (references_to tables t)
  where
    each : (rs : List Reference) → flat_map (child_checks tables t (keys rows)) rs ≡ flat_map (λ r. map (λ (item : Keyed). forbids (child_pred tables r.table r.column item.key) (if r.table == t then keys rows else []) HasChildren) rows) rs
    each [] = refl
    each (r ∷ rs) =
        ap (λ l. l ++ flat_map (child_checks tables t (keys rows)) rs) (by_keys tables t (keys rows) r rows)
        ∙ ap (λ l. map (λ (item : Keyed). forbids (child_pred tables r.table r.column item.key) (if r.table == t then keys rows else []) HasChildren) rows ++ l) (each rs)

-- where no column refers to the table nothing is checked
pub delete_none : (tables : List TableInfo) (t : ℕ) (rows : List Keyed) → references_to tables t ≡ [] → delete_checks tables t rows ≡ []
delete_none tables t rows none = ap (flat_map (λ r. map (λ (item : Keyed). forbids (child_pred tables r.table r.column item.key) (if r.table == t then keys rows else []) HasChildren) rows)) none

-- the tables from a place on
pub tables_step : (at : ℕ) (tables : List TableInfo) (info : TableInfo) → at < length tables → info ≡ slice_index_or tables at info
    → all_references at (drop at tables) ≡ references_from at 0 info.columns ++ all_references (at + 1) (drop (at + 1) tables)
tables_step at tables info lt is = ap (all_references at) (drop_more tables at info lt ∙ ap (λ x. x ∷ drop (at + 1) tables) (sym is))

-- the checks of DELETE as the code makes them

module _ (tables : List TableInfo) (t : ℕ) (rows : List Keyed) (children slice : List Child) (are : map (reference_to t) children ≡ references_to tables t) (same : slice ≡ children) where
  refs_are : map (reference_to t) slice ≡ references_to tables t
  refs_are = ap (map (reference_to t)) same ∙ are

  pub deletion_is : (own owns : List (List Value)) (checks all : List code.Check) → own ≡ keys rows → owns ≡ own → all ≡ checks → map (meant owns) checks ≡ flat_map (child_checks tables t owns) (map (reference_to t) slice) → map (meant owns) all ≡ delete_checks tables t rows
  deletion_is own owns checks all is lent held made =
      ap (map (meant owns)) held
      ∙ (made
      ∙ (ap (λ ks. flat_map (child_checks tables t ks) (map (reference_to t) slice)) (lent ∙ is)
      ∙ (ap (flat_map (child_checks tables t (keys rows))) refs_are ∙ delete_same tables t rows)))

  -- no column refers to the table
  pub none_checked : length slice ≡ 0 → delete_checks tables t rows ≡ []
  none_checked none = delete_none tables t rows (sym refs_are ∙ ap (map (reference_to t)) (empty slice none))
    where
      empty : (cs : List Child) → length cs ≡ 0 → cs ≡ []
      empty [] h = refl
      empty (c ∷ cs) h = cc

-- a table has no more than 32 columns
pub columns_few : (tables : List TableInfo) (t : ℕ) → All IsTable tables → length (columns_at tables t) ≤ 32
columns_few [] t h = omega arith
columns_few (x ∷ tables) zero h = (h 0 x (omega arith)).narrow
columns_few (x ∷ tables) (suc t) h = columns_few tables t (λ k d lt. h (suc k) d (omega (arith, lt)))

-- What may be asked

each_filter : {A : Type 0} (P : A → Type 0) (p : A → Bool) (xs : List A) → Each P xs → Each P (filter p xs)
each_filter P p [] h = tt
each_filter P p (x ∷ xs) h = by (p x) (each_filter P p xs h.1)
  where
    by : (b : Bool) → Each P (filter p xs) → Each P (if b then x ∷ filter p xs else filter p xs)
    by true k = (h.0, k)
    by false k = k

each_mapped : {A B : Type 0} (P : A → Type 0) (Q : B → Type 0) (f : A → B) (xs : List A) → ((x : A) → P x → Q (f x)) → Each P xs → Each Q (map f xs)
each_mapped P Q f [] g h = tt
each_mapped P Q f (x ∷ xs) g h = (g x h.0, each_mapped P Q f xs g h.1)

each_flat : {A B : Type 0} (P : A → Type 0) (Q : B → Type 0) (f : A → List B) (xs : List A) → ((x : A) → P x → Each Q (f x)) → Each P xs → Each Q (flat_map f xs)
each_flat P Q f [] g h = tt
each_flat P Q f (x ∷ xs) g h = each_join Q (f x) (flat_map f xs) (g x h.0) (each_flat P Q f xs g h.1)

each_any : {A : Type 0} (P : A → Type 0) (xs : List A) → ((x : A) → P x) → Each P xs
each_any P [] h = tt
each_any P (x ∷ xs) h = (h x, each_any P xs h)

module _ (tables : List TableInfo) (h : HaveParents tables) where
  parent_may : (p : ℕ) (v : Value) → p < length tables → MayAsk tables (needs (parent_pred tables p v) MissingParent)
  parent_may p v within = record { table = within; places = All-map (IsPlaced (key_columns tables p)) (λ c. test_on (key_columns tables p) c Eq v) (key_columns tables p) (λ k d lt. refl) }

  refs_within : (t n : ℕ) (columns : List Column) → ((c p : ℕ) → parent_in (slice_get columns c) ≡ Some p → p < length tables) → Each (λ (r : Reference). r.parent < length tables) (references_from t n columns)
  refs_within t n [] each = tt
  refs_within t n (d ∷ ds) each = by d.refers refl (refs_within t (n + 1) ds (λ c p is. each (suc c) p is))
    where
      by : (o : Option ℕ) → d.refers ≡ o → Each (λ (r : Reference). r.parent < length tables) (references_from t (n + 1) ds) → Each (λ (r : Reference). r.parent < length tables) (reference t n o ++ references_from t (n + 1) ds)
      by None e k = k
      by (Some p) e k = (each zero p e, k)

  pub row_may : (t : ℕ) (item : Keyed) → t < length tables → Each (MayAsk tables) (row_checks tables t item)
  row_may t item within = (
    record { table = within; places = key_placed (key_columns tables t) item.row },
    each_mapped (λ (r : Reference). r.parent < length tables) (MayAsk tables) (λ r. needs (parent_pred tables r.parent (column_of item.row r.column)) MissingParent) (filter (λ r. not (is_own_parent item r)) (references tables t)) (λ r lt. parent_may r.parent (column_of item.row r.column) lt)
        (each_filter (λ (r : Reference). r.parent < length tables) (λ r. not (is_own_parent item r)) (references tables t) (refs_within t 0 (columns_at tables t) (λ c p is. parents_within tables h t c p is))),
  )

  value_may : (o : Option ℕ) (r : Result Value End) → ((p : ℕ) → o ≡ Some p → p < length tables) → Each (MayAsk tables) (value_checks tables o r)
  value_may o (Err e) within = (tt, tt)
  value_may None (Ok v) within = tt
  value_may (Some p) (Ok v) within = (parent_may p v (within p refl), tt)

  pub update_may : (t : ℕ) (items : List RSetItem) (env : Env) (rows : List Keyed) → Each (MayAsk tables) (update_checks tables t items env rows)
  update_may t items env rows =
      each_flat (λ (item : Keyed). Unit {0}) (MayAsk tables) (λ item. flat_map (item_checks tables t env item.row) items) rows (λ item u.
      each_flat (λ (i : RSetItem). Unit {0}) (MayAsk tables) (item_checks tables t env item.row) items (λ i w. value_may (parent_of tables t i.column) _ (λ p is. parents_within tables h t i.column p is)) (each_any (λ (i : RSetItem). Unit {0}) items (λ i. tt)))
      (each_any (λ (item : Keyed). Unit {0}) rows (λ item. tt))

  child_may : (found : List (List Value)) (r : Reference) (rows : List Keyed) → r.table < length tables → Each (MayAsk tables) (map (λ (item : Keyed). forbids (child_pred tables r.table r.column item.key) found HasChildren) rows)
  child_may found r rows within =
      each_mapped (λ (item : Keyed). Unit {0}) (MayAsk tables) (λ item. forbids (child_pred tables r.table r.column item.key) found HasChildren) rows
      (λ item u. record { table = within; places = key_tests_placed (key_columns tables r.table) r.column item.key }) (each_any (λ (item : Keyed). Unit {0}) rows (λ item. tt))

  columns_named : (n t c : ℕ) (columns : List Column) → t < n → Each (λ (r : Reference). r.table < n) (references_from t c columns)
  columns_named n t c [] lt = tt
  columns_named n t c (d ∷ ds) lt = by d.refers (columns_named n t (c + 1) ds lt)
    where
      by : (o : Option ℕ) → Each (λ (r : Reference). r.table < n) (references_from t (c + 1) ds) → Each (λ (r : Reference). r.table < n) (reference t c o ++ references_from t (c + 1) ds)
      by None k = k
      by (Some p) k = (lt, k)

  tables_named : (n t : ℕ) (infos : List TableInfo) → t + length infos ≤ n → Each (λ (r : Reference). r.table < n) (all_references t infos)
  tables_named n t [] le = tt
  tables_named n t (i ∷ is) le =
      each_join (λ (r : Reference). r.table < n) (references_from t 0 i.columns) (all_references (t + 1) is) (columns_named n t 0 i.columns (omega (arith, le))) (tables_named n (t + 1) is (omega (arith, le)))

  pub delete_may : (t : ℕ) (rows : List Keyed) → Each (MayAsk tables) (delete_checks tables t rows)
  delete_may t rows =
      each_flat (λ (r : Reference). r.table < length tables) (MayAsk tables) (λ r. map (λ (item : Keyed). forbids (child_pred tables r.table r.column item.key) (if r.table == t then keys rows else []) HasChildren) rows) (references_to tables t)
      (λ r within. child_may (if r.table == t then keys rows else []) r rows within)
      (each_filter (λ (r : Reference). r.table < length tables) (λ r. r.parent == t) (all_references 0 tables) (tables_named (length tables) 0 tables (omega arith)))
