-- The faults of statements. The rules are this project's own.
use Rattle.std.specs.Prelude.{ℕ, Bool, false, not, List, [], ◌∷◌, ◌++◌, length, map, Option, Some, None, ◌==◌}
use Rattle.std.specs.List.{flat_map}
use Rattle.mv_ast.specs.declared.tree.Name.{Name}
use Rattle.mv_ast.specs.declared.tree.ColDef.{ColDef}
use Rattle.mv_ast.specs.declared.tree.TableDef.{TableDef}
use Rattle.mv_ast.specs.declared.tree.Cond.{Cond}
use Rattle.mv_ast.specs.declared.tree.Sort.{Sort}
use Rattle.mv_ast.specs.declared.tree.Agg.{Agg}
use Rattle.mv_ast.specs.declared.tree.Agg.TheVariants.{CountAll, CountDistinct, Sum, Min, Max}
use Rattle.mv_ast.specs.declared.tree.SetItem.{SetItem}
use Rattle.mv_ast.specs.declared.tree.Expr.{Expr}
use Rattle.mv_ast.specs.declared.tree.Stmt.{Stmt}
use Rattle.mv_ast.specs.declared.tree.Stmt.TheOpen.{Stmt-F, Assign, Select, Total, ForSelect, ForRows, Branch, Insert, Update, Delete, Print, Rollback}
use Rattle.mv_ast.specs.declared.tree.Stmt.TheFolds.{fold-Stmt}
use Rattle.mv_names.specs.declared.fault.TokenFault.{TokenFault}
use Rattle.mv_names.specs.declared.scope.ValueType.{ValueType}
use Rattle.mv_names.specs.declared.scope.ValueType.TheVariants.{Int, Unknown}
use Rattle.mv_names.specs.declared.scope.Binding.{Binding}
use Rattle.mv_names.specs.declared.scope.Binding.TheVariants.{Variable, Rows}
use Rattle.mv_names.specs.declared.scope.Entry.{Entry}
use Rattle.mv_names.specs.First.{unknown, double, wrong, key_set, when}
use Rattle.mv_names.specs.Named as named
use Rattle.mv_names.specs.Named.{is_named, first_named}
use Rattle.mv_names.specs.Scope.{entry_of, type_in, type_among, types_of, columns_of, select_turn, rows_turn}
use Rattle.mv_names.specs.Typing.{misfit, in_place, placed, judged, column_faults}

-- Names

-- each name that is taken or occurs earlier in the list
abbrev pub doubles : {A : Type 0} → (A → Name) → List named.Text → List A → List TokenFault
doubles label_of taken [] = []
doubles label_of taken (x ∷ xs) =
    when (is_named (λ t. t) taken (label_of x).text) (double (label_of x).token) ++ doubles label_of (taken ++ (label_of x).text ∷ []) xs

abbrev pub table_named : List TableDef → named.Text → Option TableDef
table_named tables n = first_named (λ (t : TableDef). t.name.text) tables n

abbrev pub missing_table : ℕ → Option TableDef → List TokenFault
missing_table token None = unknown token ∷ []
missing_table token (Some t) = []

-- Targets: declared variables

abbrev pub set_type : Binding → ValueType
set_type (Variable t) = t
set_type m = Unknown

abbrev pub target_type : Option Entry → ValueType
target_type None = Unknown
target_type (Some e) = set_type e.binding

abbrev pub set_faults : ℕ → Binding → List TokenFault
set_faults token (Variable t) = []
set_faults token m = wrong token ∷ []

abbrev pub target_faults : ℕ → Option Entry → List TokenFault
target_faults token None = unknown token ∷ []
target_faults token (Some e) = set_faults token e.binding

-- a target that receives a value of this type
abbrev pub target : List Entry → ValueType → Name → List TokenFault
target scope value n = target_faults n.token (entry_of scope n.text) ++ misfit value n.token (target_type (entry_of scope n.text))

-- a target for each type; a target without a type takes any value
abbrev pub targets : List Entry → List ValueType → List Name → List TokenFault
targets scope ts [] = []
targets scope [] (n ∷ ns) = target scope Unknown n ++ targets scope [] ns
targets scope (t ∷ ts) (n ∷ ns) = target scope t n ++ targets scope ts ns

-- Clauses

-- the first token of a list, or this one if the list is empty
abbrev pub names_token : List Name → ℕ → ℕ
names_token [] token = token
names_token (n ∷ ns) token = n.token

abbrev pub values_token : List Expr → ℕ → ℕ
values_token [] token = token
values_token (e ∷ es) token = e.token

-- a condition of WHERE: its right side has the column's type
abbrev pub cond_faults : List Entry → Option (List ColDef) → Cond → List TokenFault
cond_faults scope columns c = column_faults columns c.column ++ placed (type_among columns c.column.text) scope c.right

abbrev pub where_faults : List Entry → Option (List ColDef) → List Cond → List TokenFault
where_faults scope columns conds = flat_map (cond_faults scope columns) conds

abbrev pub order_faults : Option (List ColDef) → List Sort → List TokenFault
order_faults columns sorts = flat_map (λ (s : Sort). column_faults columns s.column) sorts

abbrev pub offset_faults : List Entry → Option Expr → List TokenFault
offset_faults scope None = []
offset_faults scope (Some e) = placed Int scope e

abbrev pub agg_type : Option (List ColDef) → Agg → ValueType
agg_type columns CountAll = Int
agg_type columns (CountDistinct n) = Int
agg_type columns (Sum n) = Int
agg_type columns (Min n) = type_among columns n.text
agg_type columns (Max n) = type_among columns n.text

-- an aggregate's column exists, and that of a SUM is INT
abbrev pub agg_faults : Option (List ColDef) → Agg → List TokenFault
agg_faults columns CountAll = []
agg_faults columns (CountDistinct n) = column_faults columns n
agg_faults columns (Sum n) = column_faults columns n ++ misfit Int n.token (type_among columns n.text)
agg_faults columns (Min n) = column_faults columns n
agg_faults columns (Max n) = column_faults columns n

-- a loop's name is not yet in scope
abbrev pub turn_name : List Entry → Name → List TokenFault
turn_name scope n = when (is_named (λ (e : Entry). e.name) scope n.text) (double n.token)

abbrev pub not_rows : ℕ → Binding → List TokenFault
not_rows token (Rows fields) = []
not_rows token m = wrong token ∷ []

abbrev pub rows_faults : ℕ → Option Entry → List TokenFault
rows_faults token None = unknown token ∷ []
rows_faults token (Some e) = not_rows token e.binding

-- a value for each column; a value without a column may have any type
abbrev pub values_faults : List Entry → List ColDef → List Expr → List TokenFault
values_faults scope cs [] = []
values_faults scope [] (e ∷ es) = placed Unknown scope e ++ values_faults scope [] es
values_faults scope (c ∷ cs) (e ∷ es) = placed (type_in c.kind) scope e ++ values_faults scope cs es

abbrev pub is_key : Option TableDef → named.Text → Bool
is_key None n = false
is_key (Some t) n = is_named (λ (k : Name). k.text) t.key n

-- an item of SET: its column exists and isn't in the key, and its expression has the column's type
abbrev pub item_faults : List Entry → Option TableDef → SetItem → List TokenFault
item_faults scope t i =
    column_faults (columns_of t) i.column ++ when (is_key t i.column.text) (key_set i.column.token)
    ++ in_place (type_among (columns_of t) i.column.text) (judged i.right scope (columns_of t))

-- Statements

-- the faults, given the names in scope
abbrev pub Faults : Type 0
Faults = List Entry → List TokenFault

abbrev pub all_faults : List Faults → Faults
all_faults [] scope = []
all_faults (s ∷ ss) scope = s scope ++ all_faults ss scope

-- SET
abbrev pub assign : Name → Expr → Faults
assign to right scope = target_faults to.token (entry_of scope to.text) ++ placed (target_type (entry_of scope to.text)) scope right

-- SELECT INTO: as many targets as columns, and each target fits its column
abbrev pub select : Option TableDef → List Name → List Name → Name → List Cond → List Sort → Option Expr → Faults
select t columns to table conds sorts offset scope =
    missing_table table.token t ++ flat_map (column_faults (columns_of t)) columns
    ++ when (not (length columns == length to)) (wrong (names_token to table.token)) ++ targets scope (types_of (columns_of t) columns) to
    ++ where_faults scope (columns_of t) conds ++ order_faults (columns_of t) sorts ++ offset_faults scope offset

-- SELECT with an aggregate
abbrev pub total : Option TableDef → Agg → Name → Name → List Cond → Faults
total t agg to table conds scope =
    missing_table table.token t ++ agg_faults (columns_of t) agg ++ target scope (agg_type (columns_of t) agg) to
    ++ where_faults scope (columns_of t) conds

-- FOR over SELECT: its row is in scope in its body only
abbrev pub for_select : Option TableDef → Name → List Name → Name → List Cond → List Sort → Faults → Faults
for_select t turn columns table conds sorts body scope =
    turn_name scope turn ++ missing_table table.token t ++ flat_map (column_faults (columns_of t)) columns
    ++ where_faults scope (columns_of t) conds ++ order_faults (columns_of t) sorts ++ body (scope ++ select_turn turn (columns_of t) columns ∷ [])

-- FOR over a ROWS parameter
abbrev pub for_rows : Name → Name → Faults → Faults
for_rows turn rows body scope =
    turn_name scope turn ++ rows_faults rows.token (entry_of scope rows.text) ++ body (scope ++ rows_turn turn scope rows ∷ [])

-- IF
abbrev pub branch : Expr → Faults → Faults → Faults
branch test ys ns scope = placed Int scope test ++ ys scope ++ ns scope

-- INSERT: a value for each column
abbrev pub insert : Option TableDef → Name → List Expr → Faults
insert None table values scope = unknown table.token ∷ values_faults scope [] values
insert (Some t) table values scope =
    when (not (length values == length t.columns)) (wrong (values_token values table.token)) ++ values_faults scope t.columns values

-- UPDATE
abbrev pub update : Option TableDef → Name → List SetItem → List Cond → Faults
update t table items conds scope =
    missing_table table.token t ++ doubles (λ (i : SetItem). i.column) [] items ++ flat_map (item_faults scope t) items
    ++ where_faults scope (columns_of t) conds

-- DELETE
abbrev pub delete : Option TableDef → Name → List Cond → Faults
delete t table conds scope = missing_table table.token t ++ where_faults scope (columns_of t) conds

-- PRINT
abbrev pub print : List Expr → Faults
print values scope = values_faults scope [] values

-- the faults of a statement, given those of the statements it contains
abbrev pub stmt_step : List TableDef → Stmt-F Faults → Faults
stmt_step tables (Assign token to right) = assign to right
stmt_step tables (Select token columns to table conds sorts offset) = select (table_named tables table.text) columns to table conds sorts offset
stmt_step tables (Total token agg to table conds) = total (table_named tables table.text) agg to table conds
stmt_step tables (ForSelect token turn distinct columns table conds sorts body) =
    for_select (table_named tables table.text) turn columns table conds sorts (all_faults body)
stmt_step tables (ForRows token turn rows body) = for_rows turn rows (all_faults body)
stmt_step tables (Branch token test ys ns) = branch test (all_faults ys) (all_faults ns)
stmt_step tables (Insert token table values) = insert (table_named tables table.text) table values
stmt_step tables (Update token table items conds) = update (table_named tables table.text) table items conds
stmt_step tables (Delete token table conds) = delete (table_named tables table.text) table conds
stmt_step tables (Print token values) = print values
stmt_step tables (Rollback token reason) = λ scope. []

abbrev pub statement_faults : List TableDef → Stmt → Faults
statement_faults tables = fold-Stmt Faults (stmt_step tables)

-- the faults of a statement list
abbrev pub statements : List TableDef → List Stmt → Faults
statements tables ss = all_faults (map (statement_faults tables) ss)
