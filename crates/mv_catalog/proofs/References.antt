-- Each parent table of a program exists, and its key has one column.
use Rattle.std.proofs.Common.{◌≡◌, ◌<◌, ℕ, List, Option, Some, None, All, length, slice_get, refl, ap, subst, ◌∙◌}
use Rattle.std.proofs.lemmas.Option.{get_or_from_slice_get, slice_get_within}
use Rattle.mv_values.specs.declared.schema.ColType.{ColType}
use Rattle.mv_values.specs.declared.schema.Column.{Column}
use Rattle.mv_values.specs.declared.schema.TableInfo.{TableInfo}
use Rattle.mv_values.specs.References.{parent_in, parent_of, OneKeys}
use Rattle.mv_values.specs.Tables.{columns_in, key_columns, key_in}
use Rattle.mv_catalog.specs.Text.{Refers, HasParent, HaveParents}

-- what holds of each holds of the one at a place
all_at : {A : Type 0} (P : A → Type 0) (xs : List A) (i : ℕ) (x : A) → All P xs → slice_get xs i ≡ Some x → P x
all_at P xs i x all is = subst P (get_or_from_slice_get xs i x x is) (all i x (slice_get_within xs i x is))

one_key : (tables : List TableInfo) (type : ColType) (parent : ℕ) → Refers tables type (Some parent) → length (key_columns tables parent) ≡ 1
one_key tables type parent (table, at, fits) = ap (λ (o : Option TableInfo). length (key_in o)) at ∙ ap length fits.2

within : (tables : List TableInfo) (type : ColType) (parent : ℕ) → Refers tables type (Some parent) → parent < length tables
within tables type parent (table, at, fits) = slice_get_within tables parent table at

-- what holds of each parent holds of that of a column at its place
module _ (tables : List TableInfo) (P : ℕ → Type 0) (each : (type : ColType) (parent : ℕ) → Refers tables type (Some parent) → P parent) (h : HaveParents tables) where
  of_column : (t c parent : ℕ) → parent_of tables t c ≡ Some parent → P parent
  of_column t c parent is = by (slice_get tables t) refl is
    where
      column : (info : TableInfo) (o : Option Column) → All (HasParent tables) info.columns → slice_get info.columns c ≡ o → parent_in o ≡ Some parent → P parent
      column info None all at k = cc
      column info (Some d) all at k = each d.kind parent (subst (Refers tables d.kind) k (all_at (HasParent tables) info.columns c d all at))

      by : (o : Option TableInfo) → slice_get tables t ≡ o → parent_in (slice_get (columns_in o) c) ≡ Some parent → P parent
      by None at k = cc
      by (Some info) at k = column info (slice_get info.columns c) (all_at (λ (u : TableInfo). All (HasParent tables) u.columns) tables t info h at) refl k

pub one_keys : (tables : List TableInfo) → HaveParents tables → OneKeys tables
one_keys tables h = of_column tables (λ parent. length (key_columns tables parent) ≡ 1) (one_key tables) h

pub parents_within : (tables : List TableInfo) → HaveParents tables → (t c parent : ℕ) → parent_of tables t c ≡ Some parent → parent < length tables
parents_within tables h = of_column tables (λ parent. parent < length tables) (within tables) h
