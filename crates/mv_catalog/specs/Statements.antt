-- Well-formed statements: all numbers refer to existing things, and types agree. The rules are this project's own.
use Rattle.std.specs.Prelude.{◌≡◌, ◌≢◌, ◌<◌, ⊤, ℕ, ◌+◌, Bool, true, false, ◌||◌, List, [], ◌∷◌, ◌++◌, length, map, Option, Some, None, slice_get, nat_eq, if◌then◌else◌, All, AllPairs, Contains}
use Rattle.std.specs.List.{AllZip}
use Rattle.mv_values.specs.declared.schema.Column.{Column}
use Rattle.mv_values.specs.declared.schema.TableInfo.{TableInfo}
use Rattle.mv_ast.specs.Limits.{together}
use Rattle.mv_catalog.specs.declared.resolved.RCond.{RCond}
use Rattle.mv_catalog.specs.declared.resolved.RSort.{RSort}
use Rattle.mv_catalog.specs.declared.resolved.RAgg.{RAgg}
use Rattle.mv_catalog.specs.declared.resolved.RAgg.TheVariants.{CountAll, CountDistinct, Sum, Min, Max}
use Rattle.mv_catalog.specs.declared.resolved.RSetItem.{RSetItem}
use Rattle.mv_catalog.specs.declared.resolved.RExpr.{RExpr}
use Rattle.mv_catalog.specs.declared.resolved.RStmt.{RStmt}
use Rattle.mv_catalog.specs.declared.resolved.RStmt.TheOpen.{RStmt-F, Assign, Select, Total, ForSelect, ForRows, Branch, Insert, Update, Delete, Print, Rollback}
use Rattle.mv_catalog.specs.declared.resolved.RStmt.TheFolds.{fold-RStmt, rec-RStmt}
use Rattle.mv_catalog.specs.Types.{Kind, int, declared, rows, turn, Vars, kind_of_column, HasType}

-- Parts

-- the types of a table's columns
abbrev pub kinds_of : TableInfo → List Kind
kinds_of t = map (λ (c : Column). kind_of_column c.kind) t.columns

-- a table with this number exists, and it satisfies the property
abbrev pub OfTable : List TableInfo → ℕ → (TableInfo → Type 0) → Type 0
OfTable tables n P = (t : TableInfo) × (slice_get tables n ≡ Some t) × P t

-- the expression has the type and contains no bare column
abbrev pub IsOfKind : Vars → Kind → RExpr → Type 0
IsOfKind vars t e = HasType vars [] e t

-- a declared variable has the type of the column
abbrev pub Takes : Vars → List Kind → ℕ → ℕ → Type 0
Takes vars columns c x = (t : Kind) × (slice_get columns c ≡ Some t) × (vars x ≡ Some (declared t))

-- a condition of WHERE compares a column with a value of its type
abbrev pub IsTest : Vars → List Kind → RCond → Type 0
IsTest vars columns c = (t : Kind) × (slice_get columns c.column ≡ Some t) × IsOfKind vars t c.right

-- ORDER BY names columns
abbrev pub IsSort : List Kind → RSort → Type 0
IsSort columns s = s.column < length columns

abbrev pub IsOffset : Vars → Option RExpr → Type 0
IsOffset vars None = ⊤
IsOffset vars (Some e) = IsOfKind vars int e

-- the type of an aggregate; only INT columns have a sum
abbrev pub IsTotal : List Kind → RAgg → Kind → Type 0
IsTotal columns CountAll t = t ≡ int
IsTotal columns (CountDistinct c) t = (t ≡ int) × (c < length columns)
IsTotal columns (Sum c) t = (t ≡ int) × (slice_get columns c ≡ Some int)
IsTotal columns (Min c) t = slice_get columns c ≡ Some t
IsTotal columns (Max c) t = slice_get columns c ≡ Some t

-- an item of SET assigns a value of its column's type to a column outside the key
abbrev pub IsItem : Vars → TableInfo → RSetItem → Type 0
IsItem vars table i =
    (t : Kind) × (slice_get (kinds_of table) i.column ≡ Some t) × (Contains table.key i.column → ⊥) × HasType vars (kinds_of table) i.right t

-- the variables, extended by the row of a loop
abbrev pub with_turn : Vars → ℕ → List Kind → Vars
with_turn vars row ts x = if nat_eq x row then Some (turn ts) else vars x

-- Statements

-- whether a statement is well formed, given the variables in scope
abbrev pub Well : Type 1
Well = Vars → Type 0

abbrev pub all_well : {X : Type 0} → (X → Well) → List X → Well
all_well well [] vars = ⊤
all_well well (s ∷ ss) vars = well s vars × all_well well ss vars

abbrev pub assign : ℕ → RExpr → Well
assign to right vars = (t : Kind) × (vars to ≡ Some (declared t)) × IsOfKind vars t right

abbrev pub select : List TableInfo → List ℕ → List ℕ → ℕ → List RCond → List RSort → Option RExpr → Well
select tables columns to table conds sorts offset vars =
    OfTable tables table (λ t. AllZip (Takes vars (kinds_of t)) columns to × All (IsTest vars (kinds_of t)) conds × All (IsSort (kinds_of t)) sorts)
    × IsOffset vars offset

abbrev pub total : List TableInfo → RAgg → ℕ → ℕ → List RCond → Well
total tables agg to table conds vars =
    OfTable tables table (λ t. ((k : Kind) × IsTotal (kinds_of t) agg k × (vars to ≡ Some (declared k))) × All (IsTest vars (kinds_of t)) conds)

-- a loop's row has a number not yet in use, and is in scope in the loop's body only; it has the selected columns
abbrev pub for_select : List TableInfo → ℕ → List ℕ → ℕ → List RCond → List RSort → Well → Well
for_select tables row columns table conds sorts body vars =
    OfTable tables table (λ t. All (IsTest vars (kinds_of t)) conds × All (IsSort (kinds_of t)) sorts × (vars row ≡ None)
    × ((ts : List Kind) × (map (slice_get (kinds_of t)) columns ≡ map Some ts) × body (with_turn vars row ts)))

-- the row has the columns of the ROWS parameter
abbrev pub for_rows : ℕ → ℕ → Well → Well
for_rows row over body vars = (ts : List Kind) × (vars over ≡ Some (rows ts)) × (vars row ≡ None) × body (with_turn vars row ts)

abbrev pub branch : RExpr → Well → Well → Well
branch test ys ns vars = IsOfKind vars int test × ys vars × ns vars

-- a value for each column
abbrev pub insert : List TableInfo → ℕ → List RExpr → Well
insert tables table values vars = OfTable tables table (λ t. AllZip (IsOfKind vars) (kinds_of t) values)

-- each item sets a different column
abbrev pub update : List TableInfo → ℕ → List RSetItem → List RCond → Well
update tables table items conds vars = OfTable tables table (λ t. All (IsItem vars t) items × AllPairs (λ (i j : RSetItem). i.column ≢ j.column) items × All (IsTest vars (kinds_of t)) conds)

abbrev pub delete : List TableInfo → ℕ → List RCond → Well
delete tables table conds vars = OfTable tables table (λ t. All (IsTest vars (kinds_of t)) conds)

-- the values may have any types
abbrev pub print : List RExpr → Well
print values vars = All (λ e. (t : Kind) × IsOfKind vars t e) values

-- the rules, given which of the inner statements are well formed
abbrev pub stmt_step : List TableInfo → (X : Type 0) → (X → RStmt) → (X → Well) → RStmt-F X → Well
stmt_step tables X v well (Assign to right) = assign to right
stmt_step tables X v well (Select columns to table conds sorts offset) = select tables columns to table conds sorts offset
stmt_step tables X v well (Total agg to table conds) = total tables agg to table conds
stmt_step tables X v well (ForSelect row distinct columns table conds sorts body) = for_select tables row columns table conds sorts (all_well well body)
stmt_step tables X v well (ForRows row over body) = for_rows row over (all_well well body)
stmt_step tables X v well (Branch test ys ns) = branch test (all_well well ys) (all_well well ns)
stmt_step tables X v well (Insert table values) = insert tables table values
stmt_step tables X v well (Update table items conds) = update tables table items conds
stmt_step tables X v well (Delete table conds) = delete tables table conds
stmt_step tables X v well (Print values) = print values
stmt_step tables X v well (Rollback reason) = λ vars. ⊤

-- the statement is well formed
abbrev pub IsWell : List TableInfo → RStmt → Well
IsWell tables = rec-RStmt Well (stmt_step tables)

-- Loops

-- the numbers of the rows of a statement's loops, in the order of the text
abbrev pub rows_step : RStmt-F (List ℕ) → List ℕ
rows_step (ForSelect row distinct columns table conds sorts body) = row ∷ together body
rows_step (ForRows row over body) = row ∷ together body
rows_step (Branch test ys ns) = together ys ++ together ns
rows_step s = []

abbrev pub rows_in : RStmt → List ℕ
rows_in = fold-RStmt (List ℕ) rows_step

abbrev pub rows_of : List RStmt → List ℕ
rows_of ss = together (map rows_in ss)

-- the numbers are consecutive from this one on
abbrev pub CountsFrom : ℕ → List ℕ → Type 0
CountsFrom n [] = ⊤
CountsFrom n (m ∷ ms) = (m ≡ n) × CountsFrom (n + 1) ms

-- Changes of tables

abbrev pub any : List Bool → Bool
any [] = false
any (b ∷ bs) = b || any bs

-- whether a statement may change a table: it is an INSERT, an UPDATE or a DELETE, or holds one
abbrev pub changes_step : RStmt-F Bool → Bool
changes_step (ForSelect row distinct columns table conds sorts body) = any body
changes_step (ForRows row over body) = any body
changes_step (Branch test ys ns) = any ys || any ns
changes_step (Insert table values) = true
changes_step (Update table items conds) = true
changes_step (Delete table conds) = true
changes_step (Assign to right) = false
changes_step (Select columns to table conds sorts offset) = false
changes_step (Total agg to table conds) = false
changes_step (Print values) = false
changes_step (Rollback reason) = false

abbrev pub may_change : RStmt → Bool
may_change = fold-RStmt Bool changes_step

-- whether one of the statements may
abbrev pub any_change : List RStmt → Bool
any_change ss = any (map may_change ss)

-- Sizes of statements

abbrev pub total_size : List ℕ → ℕ
total_size [] = 0
total_size (n ∷ ns) = n + total_size ns

-- the size of a statement: the number of statements in it, itself included
abbrev pub size_step : RStmt-F ℕ → ℕ
size_step (ForSelect row distinct columns table conds sorts body) = 1 + total_size body
size_step (ForRows row over body) = 1 + total_size body
size_step (Branch test ys ns) = 1 + (total_size ys + total_size ns)
size_step s = 1

abbrev pub size : RStmt → ℕ
size = fold-RStmt ℕ size_step

abbrev pub size_of : List RStmt → ℕ
size_of ss = total_size (map size ss)
