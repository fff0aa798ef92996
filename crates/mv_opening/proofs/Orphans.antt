-- Rows without their parents, one after another.
use Rattle.std.proofs.Common.{◌≡◌, ℕ, ◌+◌, ◌<◌, false, List, [], ◌∷◌, ◌++◌, Option, Some, None, drop, length, slice_get, slice_index_or, if◌then◌else◌, refl, sym, ap, subst, ◌∙◌, append_assoc}
use Rattle.std.specs.Prelude.{◌||◌}
use Rattle.std.specs.List.{list_any}
use Rattle.std.specs.Option.{is_some}
use Rattle.std.proofs.lemmas.List.{drop_more}
use Rattle.mv_values.specs.declared.rows.Keyed.{Keyed}
use Rattle.mv_values.specs.declared.schema.Column.{Column}
use Rattle.mv_values.specs.declared.schema.TableInfo.{TableInfo}
use Rattle.mv_values.specs.Columns.{column_of}
use Rattle.mv_values.specs.References.{Reference, reference, references, references_from, is_there, Orphan, orphans_in, orphans_of, orphans_from}
use Rattle.mv_values.specs.Tables.{rows_at, Tables}
use Rattle.mv_opening.specs.declared.fault.ParentFault.{ParentFault}
use Rattle.mv_opening.specs.declared.fault.ParentFault.TheVariants.{Missing, NoMemory}
use Rattle.mv_opening.specs.Parents.{TellsOrphan}

-- where the first of two lists is empty, the second is the whole
pub none_then : (first rest whole : List Orphan) → first ≡ [] → first ++ rest ≡ whole → rest ≡ whole
none_then first rest whole none h = subst (λ l. l ++ rest ≡ whole) none h

front_got : (first rest : List Orphan) (o : Orphan) → slice_get first 0 ≡ Some o → slice_get (first ++ rest) 0 ≡ Some o
front_got [] rest o h = cc
front_got (x ∷ first) rest o h = h

-- the first of a list is the first of a longer one
pub tells_front : (fault : ParentFault) (first rest whole : List Orphan) → first ++ rest ≡ whole → TellsOrphan first fault → TellsOrphan whole fault
tells_front (Missing t r c) first rest whole is h = ap (λ l. slice_get l 0) (sym is) ∙ front_got first rest (record { table = t; row = r; column = c }) h
tells_front NoMemory first rest whole is h = tt

pub in_both : (db : Tables) (xs ys : List Reference) (n : ℕ) (item : Keyed) → orphans_in db (xs ++ ys) n item ≡ orphans_in db xs n item ++ orphans_in db ys n item
in_both db [] ys n item = refl
in_both db (x ∷ xs) ys n item =
    let here : List Orphan = if is_there (column_of item.row x.column) (rows_at db x.parent) then [] else record { table = x.table; row = n; column = x.column + 1 } ∷ [] in
    ap (λ l. here ++ l) (in_both db xs ys n item) ∙ sym (append_assoc here (orphans_in db xs n item) (orphans_in db ys n item))

-- the rows from a place on
pub rows_step : (db : Tables) (refs : List Reference) (n at : ℕ) (rows : List Keyed) (item : Keyed) → at < length rows → item ≡ slice_index_or rows at item
    → orphans_of db refs n (drop at rows) ≡ orphans_in db refs n item ++ orphans_of db refs (n + 1) (drop (at + 1) rows)
rows_step db refs n at rows item lt is = ap (orphans_of db refs n) (drop_more rows at item lt ∙ ap (λ x. x ∷ drop (at + 1) rows) (sym is))

-- the tables from a place on
pub tables_step : (tables : List TableInfo) (db : Tables) (at : ℕ) → at < length db
    → orphans_from tables db at (drop at db) ≡ orphans_of db (references tables at) 1 (rows_at db at) ++ orphans_from tables db (at + 1) (drop (at + 1) db)
tables_step tables db at lt = ap (orphans_from tables db at) (drop_more db at [] lt)

-- without REFERENCES there are none
none_of_none : (db : Tables) (n : ℕ) (rows : List Keyed) → orphans_of db [] n rows ≡ []
none_of_none db n [] = refl
none_of_none db n (item ∷ rows) = none_of_none db (n + 1) rows

refs_none : (t n : ℕ) (columns : List Column) → list_any (λ (c : Column). is_some c.refers) columns ≡ false → references_from t n columns ≡ []
refs_none t n [] h = refl
refs_none t n (c ∷ cs) h = by c.refers (refs_none t (n + 1) cs) h
  where
    by : (o : Option ℕ) → (list_any (λ (c : Column). is_some c.refers) cs ≡ false → references_from t (n + 1) cs ≡ []) → (is_some o || list_any (λ (c : Column). is_some c.refers) cs) ≡ false
        → reference t n o ++ references_from t (n + 1) cs ≡ []
    by None more k = more k
    by (Some parent) more k = cc

pub none_without : (db : Tables) (t : ℕ) (columns : List Column) (rows : List Keyed) → list_any (λ (c : Column). is_some c.refers) columns ≡ false
    → orphans_of db (references_from t 0 columns) 1 rows ≡ []
none_without db t columns rows h = ap (λ refs. orphans_of db refs 1 rows) (refs_none t 0 columns h) ∙ none_of_none db 1 rows
