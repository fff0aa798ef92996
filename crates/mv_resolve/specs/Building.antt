-- The program of a script without faults: its names replaced by numbers. An unknown name, or a number above the maximum
-- of its type, may become any number: then the script has a fault, or exceeds the limits of the language.
use Rattle.std.specs.Prelude.{ℕ, ◌+◌, ◌-◌, ◌^◌, Bool, List, [], ◌∷◌, ◌++◌, length, map, min, slice_get, Option, Some, None}
use Rattle.mv_values.specs.declared.value.Value.{Value}
use Rattle.mv_values.specs.declared.schema.Column.{Column}
use Rattle.mv_values.specs.declared.schema.TableInfo.{TableInfo}
use Rattle.mv_values.specs.declared.calls.Argument.{Argument}
use Rattle.mv_values.specs.declared.calls.Argument.TheVariants as argument
use Rattle.mv_values.specs.declared.calls.Call.{Call}
use Rattle.mv_ast.specs.declared.tree.Name.{Name}
use Rattle.mv_ast.specs.declared.tree.Span.{Span}
use Rattle.mv_ast.specs.declared.tree.Lit.{Lit}
use Rattle.mv_ast.specs.declared.tree.LitRow.{LitRow}
use Rattle.mv_ast.specs.declared.tree.ColDef.{ColDef}
use Rattle.mv_ast.specs.declared.tree.TableDef.{TableDef}
use Rattle.mv_ast.specs.declared.tree.Param.{Param}
use Rattle.mv_ast.specs.declared.tree.ParamKind.{ParamKind}
use Rattle.mv_ast.specs.declared.tree.ParamKind.TheVariants as param
use Rattle.mv_ast.specs.declared.tree.VarDef.{VarDef}
use Rattle.mv_ast.specs.declared.tree.ProcDef.{ProcDef}
use Rattle.mv_ast.specs.declared.tree.CopyDef.{CopyDef}
use Rattle.mv_ast.specs.declared.tree.Arg.{Arg}
use Rattle.mv_ast.specs.declared.tree.Arg.TheVariants as arg
use Rattle.mv_ast.specs.declared.tree.CallDef.{CallDef}
use Rattle.mv_ast.specs.declared.tree.Script.{Script}
use Rattle.mv_ast.specs.declared.tree.Cond.{Cond}
use Rattle.mv_ast.specs.declared.tree.Sort.{Sort}
use Rattle.mv_ast.specs.declared.tree.Agg.{Agg}
use Rattle.mv_ast.specs.declared.tree.Agg.TheVariants as agg
use Rattle.mv_ast.specs.declared.tree.SetItem.{SetItem}
use Rattle.mv_ast.specs.declared.tree.Expr.{Expr, Expr-F, fold-Expr}
use Rattle.mv_ast.specs.declared.tree.ExprKind.TheOpen as kind
use Rattle.mv_ast.specs.declared.tree.Stmt.{Stmt}
use Rattle.mv_ast.specs.declared.tree.Stmt.TheOpen as stmt
use Rattle.mv_ast.specs.declared.tree.Stmt.TheFolds.{fold-Stmt}
use Rattle.mv_names.specs.declared.parts.Parts.{Parts}
use Rattle.mv_names.specs.Named.{Text, first_named, place_named}
use Rattle.mv_names.specs.Items.{parts_of}
use Rattle.mv_names.specs.Scope.{found}
use Rattle.mv_names.specs.Statements.{table_named}
use Rattle.mv_resolve.specs.declared.slot.NamedSlot.{NamedSlot}
use Rattle.mv_catalog.specs.declared.resolved.ParamInfo.{ParamInfo}
use Rattle.mv_catalog.specs.declared.resolved.ParamInfo.TheVariants as param_info
use Rattle.mv_catalog.specs.declared.resolved.ProcInfo.{ProcInfo}
use Rattle.mv_catalog.specs.declared.resolved.CopyInfo.{CopyInfo}
use Rattle.mv_catalog.specs.declared.resolved.Resolved.{Resolved}
use Rattle.mv_catalog.specs.declared.resolved.RCond.{RCond}
use Rattle.mv_catalog.specs.declared.resolved.RSort.{RSort}
use Rattle.mv_catalog.specs.declared.resolved.RAgg.{RAgg}
use Rattle.mv_catalog.specs.declared.resolved.RAgg.TheVariants as r_agg
use Rattle.mv_catalog.specs.declared.resolved.RSetItem.{RSetItem}
use Rattle.mv_catalog.specs.declared.resolved.RExpr.{RExpr}
use Rattle.mv_catalog.specs.declared.resolved.RExprKind.{RExprKind}
use Rattle.mv_catalog.specs.declared.resolved.RExprKind.TheVariants as r_kind
use Rattle.mv_catalog.specs.declared.resolved.RStmt.{RStmt}
use Rattle.mv_catalog.specs.declared.resolved.RStmt.TheVariants as r_stmt

-- Numbers

-- the number, capped at the greatest of 16 bits, and of 8 bits
abbrev pub small : ℕ → ℕ
small n = min n (2 ^ 16 - 1)

abbrev pub tiny : ℕ → ℕ
tiny n = min n (2 ^ 8 - 1)

abbrev pub column_name : ColDef → Text
column_name c = c.name.text

-- the number of a column and of a table: its position
abbrev pub column_number : List ColDef → Name → ℕ
column_number columns n = small (place_named column_name columns n.text)

abbrev pub table_place : List TableDef → Name → ℕ
table_place tables n = place_named (λ (t : TableDef). t.name.text) tables n.text

abbrev pub columns_in : Option TableDef → List ColDef
columns_in None = []
columns_in (Some t) = t.columns

-- the columns of the table with this name
abbrev pub columns_named : List TableDef → Name → List ColDef
columns_named tables n = columns_in (table_named tables n.text)

-- The variables of a procedure: parameters, declared variables, `:found`, and its loop rows in the order of the text

abbrev pub slot : ℕ → Text → List Text → NamedSlot
slot n name fields = record { name = name; number = small n; fields = fields }

abbrev pub param_fields : ParamKind → List Text
param_fields (param.One kind) = []
param_fields (param.Many columns) = map column_name columns

-- the slots of parameters, of which the first has this number
abbrev pub param_slots : ℕ → List Param → List NamedSlot
param_slots n [] = []
param_slots n (q ∷ qs) = slot n q.name.text (param_fields q.kind) ∷ param_slots (n + 1) qs

abbrev pub variable_slots : ℕ → List VarDef → List NamedSlot
variable_slots n [] = []
variable_slots n (v ∷ vs) = slot n v.name.text [] ∷ variable_slots (n + 1) vs

-- the number of `:found`; that of the first loop is the next
abbrev pub found_number : ProcDef → ℕ
found_number p = length p.params + length p.vars

abbrev pub slots_of : ProcDef → List NamedSlot
slots_of p = param_slots 0 p.params ++ variable_slots (length p.params) p.vars ++ slot (found_number p) found.name [] ∷ []

abbrev pub slot_named : List NamedSlot → Text → Option NamedSlot
slot_named slots n = first_named (λ (s : NamedSlot). s.name) slots n

abbrev pub number_in : Option NamedSlot → ℕ
number_in None = 0
number_in (Some s) = s.number

abbrev pub fields_in : Option NamedSlot → List Text
fields_in None = []
fields_in (Some s) = s.fields

abbrev pub number_of : List NamedSlot → Name → ℕ
number_of slots n = number_in (slot_named slots n.text)

abbrev pub numbers_of : List NamedSlot → List Name → List ℕ
numbers_of slots ns = map (number_of slots) ns

-- the index of a column in a loop's row
abbrev pub field_in : Option NamedSlot → Name → ℕ
field_in row c = small (place_named (λ t. t) (fields_in row) c.text)

abbrev pub field_place : List NamedSlot → Name → Name → ℕ
field_place slots r c = field_in (slot_named slots r.text) c

-- Expressions

-- a construct, given the variables in scope and the columns that may occur bare
abbrev pub Builds : Type 0 → Type 0
Builds A = List NamedSlot → List ColDef → A

abbrev pub kind_step : kind.ExprKind-F (Builds RExprKind) (Builds RExpr) → Builds RExprKind
kind_step (kind.Const v) slots columns = r_kind.Const v
kind_step (kind.Var n) slots columns = r_kind.Var (number_of slots n)
kind_step (kind.Field r c) slots columns = r_kind.Field (number_of slots r) (field_place slots r c)
kind_step (kind.Col c) slots columns = r_kind.Col (column_number columns c)
kind_step (kind.One op a) slots columns = r_kind.One op (a slots columns)
kind_step (kind.Two op a b) slots columns = r_kind.Two op (a slots columns) (b slots columns)

abbrev pub expr_step : Expr-F (Builds RExprKind) (Builds RExpr) → Builds RExpr
expr_step e slots columns = record { kind = e.kind slots columns }

abbrev pub expr_of : Expr → Builds RExpr
expr_of = fold-Expr (Builds RExprKind) (Builds RExpr) kind_step expr_step

-- an expression without bare columns
abbrev pub plain : List NamedSlot → Expr → RExpr
plain slots e = expr_of e slots []

abbrev pub plains : List NamedSlot → List Expr → List RExpr
plains slots es = map (plain slots) es

abbrev pub maybe_plain : List NamedSlot → Option Expr → Option RExpr
maybe_plain slots None = None
maybe_plain slots (Some e) = Some (plain slots e)

-- Clauses

abbrev pub cond_of : List NamedSlot → List ColDef → Cond → RCond
cond_of slots columns c = record { column = tiny (column_number columns c.column); op = c.op; right = plain slots c.right }

abbrev pub conds_of : List NamedSlot → List ColDef → List Cond → List RCond
conds_of slots columns cs = map (cond_of slots columns) cs

abbrev pub sorts_of : List ColDef → List Sort → List RSort
sorts_of columns ss = map (λ (s : Sort). record { column = column_number columns s.column; descending = s.descending }) ss

abbrev pub agg_of : List ColDef → Agg → RAgg
agg_of columns agg.CountAll = r_agg.CountAll
agg_of columns (agg.CountDistinct c) = r_agg.CountDistinct (column_number columns c)
agg_of columns (agg.Sum c) = r_agg.Sum (column_number columns c)
agg_of columns (agg.Min c) = r_agg.Min (column_number columns c)
agg_of columns (agg.Max c) = r_agg.Max (column_number columns c)

abbrev pub items_of : List NamedSlot → List ColDef → List SetItem → List RSetItem
items_of slots columns is = map (λ (i : SetItem). record { column = column_number columns i.column; right = expr_of i.right slots columns }) is

-- Statements

-- a statement: the number of loops in it, itself included, and the result if its first loop has this number
pub record Built : Type 0 where
  pub loops : ℕ
  pub build : List NamedSlot → ℕ → RStmt

abbrev pub loops_in : List Built → ℕ
loops_in [] = 0
loops_in (b ∷ bs) = b.loops + loops_in bs

abbrev pub build_all : List Built → List NamedSlot → ℕ → List RStmt
build_all [] slots n = []
build_all (b ∷ bs) slots n = b.build slots n ∷ build_all bs slots (n + b.loops)

-- a statement without loops
abbrev pub single : (List NamedSlot → RStmt) → Built
single f = record { loops = 0; build = λ slots n. f slots }

abbrev pub names_of : List Name → List Text
names_of ns = map (λ (n : Name). n.text) ns

-- a loop over a SELECT; its row has the selected columns
abbrev pub for_select : List TableDef → Name → Bool → List Name → Name → List Cond → List Sort → List Built → Built
for_select tables turn distinct columns table conds sorts body = record {
  loops = 1 + loops_in body;
  build = λ slots n.
      let own = columns_named tables table in
      r_stmt.ForSelect (small n) distinct (map (column_number own) columns) (small (table_place tables table)) (conds_of slots own conds) (sorts_of own sorts)
      (build_all body (slots ++ slot n turn.text (names_of columns) ∷ []) (n + 1));
}

-- a loop over a ROWS parameter; its row has the parameter's columns
abbrev pub for_rows : Name → Name → List Built → Built
for_rows turn rows body = record {
  loops = 1 + loops_in body;
  build = λ slots n.
      r_stmt.ForRows (small n) (number_of slots rows)
      (build_all body (slots ++ slot n turn.text (fields_in (slot_named slots rows.text)) ∷ []) (n + 1));
}

abbrev pub branch : Expr → List Built → List Built → Built
branch test ys ns = record {
  loops = loops_in ys + loops_in ns;
  build = λ slots n. r_stmt.Branch (plain slots test) (build_all ys slots n) (build_all ns slots (n + loops_in ys));
}

abbrev pub stmt_step : List TableDef → stmt.Stmt-F Built → Built
stmt_step tables (stmt.Assign token to right) = single (λ slots. r_stmt.Assign (number_of slots to) (plain slots right))
stmt_step tables (stmt.Select token columns to table conds sorts offset) =
    single (λ slots. let own = columns_named tables table in r_stmt.Select (map (column_number own) columns) (numbers_of slots to) (small (table_place tables table))
    (conds_of slots own conds) (sorts_of own sorts) (maybe_plain slots offset))
stmt_step tables (stmt.Total token a to table conds) =
    single (λ slots. let own = columns_named tables table in r_stmt.Total (agg_of own a) (number_of slots to) (small (table_place tables table)) (conds_of slots own conds))
stmt_step tables (stmt.ForSelect token turn distinct columns table conds sorts body) = for_select tables turn distinct columns table conds sorts body
stmt_step tables (stmt.ForRows token turn rows body) = for_rows turn rows body
stmt_step tables (stmt.Branch token test ys ns) = branch test ys ns
stmt_step tables (stmt.Insert token table values) = single (λ slots. r_stmt.Insert (small (table_place tables table)) (plains slots values))
stmt_step tables (stmt.Update token table items conds) =
    single (λ slots. let own = columns_named tables table in r_stmt.Update (small (table_place tables table)) (items_of slots own items) (conds_of slots own conds))
stmt_step tables (stmt.Delete token table conds) =
    single (λ slots. r_stmt.Delete (small (table_place tables table)) (conds_of slots (columns_named tables table) conds))
stmt_step tables (stmt.Print token values) = single (λ slots. r_stmt.Print (plains slots values))
stmt_step tables (stmt.Rollback token reason) = single (λ slots. r_stmt.Rollback reason)

abbrev pub built : List TableDef → Stmt → Built
built tables = fold-Stmt Built (stmt_step tables)

-- the number of loops in statements
abbrev pub loops_of : List TableDef → List Stmt → ℕ
loops_of tables ss = loops_in (map (built tables) ss)

-- the statements, of which the first loop has this number
abbrev pub statements_of : List TableDef → List Stmt → List NamedSlot → ℕ → List RStmt
statements_of tables ss slots n = build_all (map (built tables) ss) slots n

-- Items

-- the number of a column's parent table, if it has REFERENCES
abbrev pub parent_number : List TableDef → Option Name → Option ℕ
parent_number tables None = None
parent_number tables (Some n) = Some (tiny (table_place tables n))

abbrev pub described : List TableDef → ColDef → Column
described tables c = record { name = c.name.text; kind = c.kind; refers = parent_number tables c.refers }

-- a table; its key columns are given by their indexes
abbrev pub table_of : List TableDef → TableDef → TableInfo
table_of tables t = record {
  name = t.name.text;
  columns = map (described tables) t.columns;
  key = map (λ (n : Name). tiny (place_named column_name t.columns n.text)) t.key;
}

abbrev pub row_of : LitRow → List Value
row_of r = map (λ (l : Lit). l.value) r.values

abbrev pub rows_of : List LitRow → List (List Value)
rows_of rs = map row_of rs

abbrev pub param_of : ParamKind → ParamInfo
param_of (param.One kind) = param_info.One kind
param_of (param.Many columns) = param_info.Many (map (λ (c : ColDef). c.kind) columns)

abbrev pub procedure_of : List TableDef → ProcDef → ProcInfo
procedure_of tables p = record {
  name = p.name.text;
  params = map (λ (q : Param). param_of q.kind) p.params;
  read_only = p.read_only;
  defaults = map (λ (v : VarDef). v.initial.value) p.vars;
  body = statements_of tables p.body (slots_of p) (found_number p + 1);
}

-- a block that fills the table with this number
abbrev pub copy_info : ℕ → Span → CopyInfo
copy_info t s = record { table = t; at = s.at; len = s.len; closed = s.closed }

abbrev pub copy_of : List TableDef → CopyDef → CopyInfo
copy_of tables c = copy_info (tiny (table_place tables c.table)) c.block

abbrev pub argument_of : Arg → Argument
argument_of (arg.One l) = argument.One l.value
argument_of (arg.Many rs) = argument.Many (rows_of rs.rows)

abbrev pub call_of : List ProcDef → CallDef → Call
call_of procedures c = record {
  procedure = small (place_named (λ (p : ProcDef). p.name.text) procedures c.name.text);
  arguments = map argument_of c.arguments;
}

-- the first journal's block, whose table is 0
abbrev pub journal_of : Option Span → Option CopyInfo
journal_of None = None
journal_of (Some s) = Some (copy_info 0 s)

abbrev pub resolved_parts : Parts → Resolved
resolved_parts p = record {
  tables = map (table_of p.tables) p.tables;
  rows = map (λ (t : TableDef). rows_of t.rows) p.tables;
  procedures = map (procedure_of p.tables) p.procedures;
  copies = map (copy_of p.tables) p.copies;
  calls = map (call_of p.procedures) p.calls;
  journal = journal_of (slice_get p.journals 0);
}

-- the program of a script without faults
abbrev pub resolved_of : Script → Resolved
resolved_of script = resolved_parts (parts_of script.items)
