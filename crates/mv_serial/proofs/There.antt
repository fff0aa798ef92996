-- The parents of the values of a row, one column after another.
use Rattle.std.proofs.Common.{◌≡◌, ℕ, Bool, true, false, List, [], ◌∷◌, ◌++◌, Option, Some, None, refl, sym, subst}
use Rattle.std.specs.Prelude.{◌&&◌, ◌||◌}
use Rattle.mv_values.specs.declared.rows.Keyed.{Keyed}
use Rattle.mv_values.specs.declared.schema.TableInfo.{TableInfo}
use Rattle.mv_values.specs.Columns.{column_of}
use Rattle.mv_values.specs.References.{Reference, parent_of, is_there, ParentsHaveOneKey}
use Rattle.mv_values.specs.Tables.{rows_at, Tables}
use Rattle.mv_eval.specs.References.{is_own_parent, has_parents}
use Rattle.mv_serial.specs.Referring.{IsOneKeyed}

pub both : (xs ys : List Reference) (new : Keyed) (db : Tables) → has_parents (xs ++ ys) new db ≡ (has_parents xs new db && has_parents ys new db)
both [] ys new db = refl
both (r ∷ rs) ys new db = by (is_own_parent new r || is_there (column_of new.row r.column) (rows_at db r.parent)) (both rs ys new db)
  where
    by : (b : Bool) → has_parents (rs ++ ys) new db ≡ (has_parents rs new db && has_parents ys new db) → (b && has_parents (rs ++ ys) new db) ≡ ((b && has_parents rs new db) && has_parents ys new db)
    by true h = h
    by false h = refl

pub on_then : (b first rest whole : Bool) → b ≡ true → b ≡ first → (first && rest) ≡ whole → rest ≡ whole
on_then true first rest whole n is h = subst (λ f. (f && rest) ≡ whole) (sym is) h
on_then false first rest whole n is h = cc

pub one_keyed : (tables : List TableInfo) (db : Tables) (t c : ℕ) → ParentsHaveOneKey tables db → IsOneKeyed (parent_of tables t c) db
one_keyed tables db t c h = by (parent_of tables t c) refl
  where
    by : (o : Option ℕ) → parent_of tables t c ≡ o → IsOneKeyed o db
    by None is = tt
    by (Some parent) is = h t c parent is
