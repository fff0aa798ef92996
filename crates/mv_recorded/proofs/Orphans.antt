-- Where no row is told as lacking a parent, each has its parents.
use Rattle.std.proofs.Common.{◌≡◌, ℕ, zero, suc, ◌+◌, Bool, true, false, List, [], ◌∷◌, if◌then◌else◌, refl, subst, arith}
use Rattle.mv_values.specs.declared.rows.Keyed.{Keyed}
use Rattle.mv_values.specs.declared.schema.TableInfo.{TableInfo}
use Rattle.mv_values.specs.Columns.{column_of}
use Rattle.mv_values.specs.References.{Reference, references, is_there, Orphan, orphans_in, orphans_of, orphans_from, orphans}
use Rattle.mv_values.specs.Tables.{rows_at, Tables}
use Rattle.mv_ast.proofs.Limited.{nothing_left}
use Rattle.mv_recorded.specs.Own.{Each}
use Rattle.mv_recorded.specs.Parents.{HasParents, ReferencesStand}

row_stands : (db : Tables) (refs : List Reference) (n : ℕ) (item : Keyed) → orphans_in db refs n item ≡ [] → HasParents db refs item
row_stands db [] n item h = tt
row_stands db (r ∷ rs) n item h = (
  by (is_there (column_of item.row r.column) (rows_at db r.parent)) refl (nothing_left (told (is_there (column_of item.row r.column) (rows_at db r.parent))) (orphans_in db rs n item) h).0,
  row_stands db rs n item (nothing_left (told (is_there (column_of item.row r.column) (rows_at db r.parent))) (orphans_in db rs n item) h).1,
)
  where
    told : Bool → List Orphan
    told b = if b then [] else record { table = r.table; row = n; column = r.column + 1 } ∷ []

    by : (b : Bool) → is_there (column_of item.row r.column) (rows_at db r.parent) ≡ b → told b ≡ [] → is_there (column_of item.row r.column) (rows_at db r.parent) ≡ true
    by true e k = e
    by false e k = cc

rows_stand : (db : Tables) (refs : List Reference) (n : ℕ) (rows : List Keyed) → orphans_of db refs n rows ≡ [] → Each (HasParents db refs) rows
rows_stand db refs n [] h = tt
rows_stand db refs n (item ∷ rows) h = (
  row_stands db refs n item (nothing_left (orphans_in db refs n item) (orphans_of db refs (n + 1) rows) h).0,
  rows_stand db refs (n + 1) rows (nothing_left (orphans_in db refs n item) (orphans_of db refs (n + 1) rows) h).1,
)

none_from : (tables : List TableInfo) (db : Tables) (n : ℕ) (rest : Tables) → orphans_from tables db n rest ≡ [] → (k : ℕ) → orphans_of db (references tables (n + k)) 1 (rows_at rest k) ≡ []
none_from tables db n [] h k = refl
none_from tables db n (rows ∷ rest) h zero =
    let same : n ≡ n + 0 = omega arith in
    subst (λ t. orphans_of db (references tables t) 1 rows ≡ []) same (nothing_left (orphans_of db (references tables n) 1 rows) (orphans_from tables db (n + 1) rest) h).0
none_from tables db n (rows ∷ rest) h (suc k) =
    let same : (n + 1) + k ≡ n + suc k = omega arith in
    subst (λ t. orphans_of db (references tables t) 1 (rows_at rest k) ≡ []) same (none_from tables db (n + 1) rest (nothing_left (orphans_of db (references tables n) 1 rows) (orphans_from tables db (n + 1) rest) h).1 k)

pub references_stand : (tables : List TableInfo) (db : Tables) → orphans tables db ≡ [] → ReferencesStand tables db
references_stand tables db h t =
    let same : 0 + t ≡ t = omega arith in
    rows_stand db (references tables t) 1 (rows_at db t) (subst (λ u. orphans_of db (references tables u) 1 (rows_at db t) ≡ []) same (none_from tables db 0 db h t))
