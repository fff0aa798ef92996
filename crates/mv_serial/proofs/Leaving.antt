-- Children that stay where rows are removed.
use Rattle.std.proofs.Common.{◌≡◌, ℕ, ◌+◌, ◌<◌, ◌==◌, Bool, true, false, cond, List, [], ◌∷◌, ◌++◌, drop, length, slice_index_or, if◌then◌else◌, refl, sym, ap, subst, ◌∙◌}
use Rattle.std.specs.Prelude.{not, ◌||◌}
use Rattle.std.specs.List.{filter, list_any}
use Rattle.std.proofs.lemmas.List.{drop_more}
use Rattle.mv_values.specs.declared.value.Value.{Value}
use Rattle.mv_values.specs.declared.pred.Test.{Test}
use Rattle.mv_values.specs.declared.rows.Keyed.{Keyed}
use Rattle.mv_values.specs.declared.schema.Column.{Column}
use Rattle.mv_values.specs.declared.schema.TableInfo.{TableInfo}
use Rattle.mv_values.specs.Preds.{meets}
use Rattle.mv_values.specs.References.{Reference, reference, references_from, all_references}
use Rattle.mv_values.specs.Tables.{rows_at, Tables}
use Rattle.mv_eval.specs.Changes.{without}
use Rattle.mv_eval.specs.References.{holds_key, left_in}
use Rattle.mv_eval.specs.Rows.{matching}
use Rattle.mv_serial.specs.Removing.{stays, to_table, have_children}
use Rattle.mv_values.proofs.There.{refs_step}

any_swap : (p q : Keyed → Bool) (rows : List Keyed) → list_any p (filter q rows) ≡ list_any q (filter p rows)
any_swap p q [] = refl
any_swap p q (r ∷ rs) = by (p r) refl (q r) refl (any_swap p q rs)
  where
    by : (a : Bool) → p r ≡ a → (b : Bool) → q r ≡ b → list_any p (filter q rs) ≡ list_any q (filter p rs)
        → list_any p (cond b (r ∷ filter q rs) (filter q rs)) ≡ list_any q (cond a (r ∷ filter p rs) (filter p rs))
    by true e true f h = ap (λ x. x || list_any p (filter q rs)) e ∙ sym (ap (λ x. x || list_any q (filter p rs)) f)
    by true e false f h = h ∙ sym (ap (λ x. x || list_any q (filter p rs)) f)
    by false e true f h = ap (λ x. x || list_any p (filter q rs)) e ∙ h
    by false e false f h = h

any_there : (q : Keyed → Bool) (rows : List Keyed) → list_any (λ (r : Keyed). true) (filter q rows) ≡ list_any q rows
any_there q [] = refl
any_there q (r ∷ rs) = by (q r) (any_there q rs)
  where
    by : (b : Bool) → list_any (λ (r : Keyed). true) (filter q rs) ≡ list_any q rs → list_any (λ (r : Keyed). true) (cond b (r ∷ filter q rs) (filter q rs)) ≡ (b || list_any q rs)
    by true h = refl
    by false h = h

-- a row that holds the key and stays is one of those that stay and hold it
pub any_left : (t u c : ℕ) (tests : List Test) (key : List Value) (db : Tables)
    → list_any (λ (item : Keyed). stays t tests u item.row) (filter (holds_key c key) (rows_at db u)) ≡ list_any (holds_key c key) (left_in t tests db u)
any_left t u c tests key db = by (u == t)
  where
    by : (b : Bool) → list_any (λ (item : Keyed). not b || not (meets tests item.row)) (filter (holds_key c key) (rows_at db u))
        ≡ list_any (holds_key c key) (if b then without tests (rows_at db u) else rows_at db u)
    by true = any_swap (λ (item : Keyed). not (meets tests item.row)) (holds_key c key) (rows_at db u)
    by false = any_there (holds_key c key) (rows_at db u)

-- Several columns with REFERENCES

or_more : (a b c : Bool) → (a || (b || c)) ≡ ((a || b) || c)
or_more true b c = refl
or_more false b c = refl

children_both : (xs ys : List Reference) (t : ℕ) (tests : List Test) (db : Tables) → have_children (xs ++ ys) t tests db ≡ (have_children xs t tests db || have_children ys t tests db)
children_both [] ys t tests db = refl
children_both (x ∷ xs) ys t tests db =
    let here = list_any (λ (item : Keyed). list_any (holds_key x.column item.key) (left_in t tests db x.table)) (matching tests (rows_at db t)) in
    ap (λ b. here || b) (children_both xs ys t tests db) ∙ or_more here (have_children xs t tests db) (have_children ys t tests db)

to_both : (t : ℕ) (xs ys : List Reference) → to_table t (xs ++ ys) ≡ to_table t xs ++ to_table t ys
to_both t [] ys = refl
to_both t (x ∷ xs) ys = by (x.parent == t) (to_both t xs ys)
  where
    by : (b : Bool) → to_table t (xs ++ ys) ≡ to_table t xs ++ to_table t ys → cond b (x ∷ to_table t (xs ++ ys)) (to_table t (xs ++ ys)) ≡ cond b (x ∷ to_table t xs) (to_table t xs) ++ to_table t ys
    by true h = ap (λ l. x ∷ l) h
    by false h = h

first_or_later : (t : ℕ) (tests : List Test) (db : Tables) (all xs ys : List Reference) → all ≡ xs ++ ys
    → have_children (to_table t all) t tests db ≡ (have_children (to_table t xs) t tests db || have_children (to_table t ys) t tests db)
first_or_later t tests db all xs ys is =
    ap (λ rs. have_children (to_table t rs) t tests db) is
    ∙ (ap (λ rs. have_children rs t tests db) (to_both t xs ys) ∙ children_both (to_table t xs) (to_table t ys) t tests db)

-- the children by the columns from a place on
pub columns_step : (t u at : ℕ) (tests : List Test) (db : Tables) (columns : List Column) (c : Column) → at < length columns → c ≡ slice_index_or columns at c
    → have_children (to_table t (references_from u at (drop at columns))) t tests db
    ≡ (have_children (to_table t (reference u at c.refers)) t tests db || have_children (to_table t (references_from u (at + 1) (drop (at + 1) columns))) t tests db)
columns_step t u at tests db columns c lt is =
    first_or_later t tests db (references_from u at (drop at columns)) (reference u at c.refers) (references_from u (at + 1) (drop (at + 1) columns)) (refs_step u at columns c lt is)

-- the children by the tables from a place on
pub tables_step : (t at : ℕ) (tests : List Test) (db : Tables) (tables : List TableInfo) (info : TableInfo) → at < length tables → info ≡ slice_index_or tables at info
    → have_children (to_table t (all_references at (drop at tables))) t tests db
    ≡ (have_children (to_table t (references_from at 0 info.columns)) t tests db || have_children (to_table t (all_references (at + 1) (drop (at + 1) tables))) t tests db)
tables_step t at tests db tables info lt is =
    first_or_later t tests db (all_references at (drop at tables)) (references_from at 0 info.columns) (all_references (at + 1) (drop (at + 1) tables))
    (ap (all_references at) (drop_more tables at info lt ∙ ap (λ x. x ∷ drop (at + 1) tables) (sym is)))

pub off_then : (b first rest whole : Bool) → b ≡ false → b ≡ first → (first || rest) ≡ whole → rest ≡ whole
off_then false first rest whole n is h = subst (λ f. (f || rest) ≡ whole) (sym is) h
off_then true first rest whole n is h = cc
