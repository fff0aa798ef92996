-- Statements that name only tables and columns that exist.
use Rattle.std.specs.Prelude.{◌<◌, ⊤, ℕ, List, length, All}
use Rattle.std.specs.List.{flat_map}
use Rattle.mv_values.specs.declared.schema.TableInfo.{TableInfo}
use Rattle.mv_values.specs.Tables.{columns_at}
use Rattle.mv_catalog.specs.declared.resolved.RCond.{RCond}
use Rattle.mv_catalog.specs.declared.resolved.RSetItem.{RSetItem}
use Rattle.mv_catalog.specs.declared.resolved.RStmt.TheOpen.{RStmt-F, Assign, Select, Total, ForSelect, ForRows, Branch, Insert, Update, Delete, Print, Rollback}
use Rattle.mv_recorded.specs.Asking.{columns_in, column_in, with_sorts}

-- they are columns of the table
abbrev pub AreColumns : List TableInfo → ℕ → List ℕ → Type 0
AreColumns tables t cs = All (λ c. c < length (columns_at tables t)) cs

-- the table with the number exists, and WHERE tests columns of it
pub record Tests (tables : List TableInfo) (t : ℕ) (conds : List RCond) : Type 0 where
  pub table : t < length tables
  pub columns : All (λ (c : RCond). c.column < length (columns_at tables t)) conds

-- SET sets columns of the table, and its right sides read columns of it
pub record Sets (tables : List TableInfo) (t : ℕ) (items : List RSetItem) : Type 0 where
  pub columns : All (λ (i : RSetItem). i.column < length (columns_at tables t)) items
  pub rights : AreColumns tables t (flat_map (λ i. columns_in i.right) items)

-- the table of a statement exists, and the statement names columns of it
abbrev pub NamesColumns : {X : Type 0} → List TableInfo → RStmt-F X → Type 0
NamesColumns tables (Select cs xs t conds sorts offset) = Tests tables t conds × AreColumns tables t (with_sorts cs sorts)
NamesColumns tables (Total agg x t conds) = Tests tables t conds × AreColumns tables t (column_in agg)
NamesColumns tables (ForSelect x once cs t conds sorts body) = Tests tables t conds × AreColumns tables t (with_sorts cs sorts)
NamesColumns tables (Insert t es) = t < length tables
NamesColumns tables (Update t items conds) = Tests tables t conds × Sets tables t items
NamesColumns tables (Delete t conds) = Tests tables t conds
NamesColumns tables (Assign x e) = ⊤
NamesColumns tables (ForRows x y body) = ⊤
NamesColumns tables (Branch e ys ns) = ⊤
NamesColumns tables (Print es) = ⊤
NamesColumns tables (Rollback reason) = ⊤
