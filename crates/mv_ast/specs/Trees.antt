-- How the tree of a script is built from its parts.
use Rattle.std.specs.Prelude.{List, [], ◌∷◌, ℕ, Bool, true, false, Option, Some, None}
use Rattle.mv_values.specs.declared.schema.ColType.{ColType}
use Rattle.mv_values.specs.declared.op.Op.{Op}
use Rattle.mv_ast.specs.declared.lexeme.Lexeme.{Lexeme}
use Rattle.mv_ast.specs.declared.tree.Agg.{Agg}
use Rattle.mv_ast.specs.declared.tree.Arg.{Arg}
use Rattle.mv_ast.specs.declared.tree.ColDef.{ColDef}
use Rattle.mv_ast.specs.declared.tree.Cond.{Cond}
use Rattle.mv_ast.specs.declared.tree.Expr.{Expr}
use Rattle.mv_ast.specs.declared.tree.ExprKind.{ExprKind}
use Rattle.mv_ast.specs.declared.tree.ExprKind.TheVariants.{Var, Field, Col, One, Two}
use Rattle.mv_ast.specs.declared.tree.Item.{Item}
use Rattle.mv_ast.specs.declared.tree.ItemKind.{ItemKind}
use Rattle.mv_ast.specs.declared.tree.ItemKind.TheVariants as item
use Rattle.mv_ast.specs.declared.tree.Lit.{Lit}
use Rattle.mv_ast.specs.declared.tree.LitRow.{LitRow}
use Rattle.mv_ast.specs.declared.tree.LitRows.{LitRows}
use Rattle.mv_ast.specs.declared.tree.Name.{Name}
use Rattle.mv_ast.specs.declared.tree.OneOp.{OneOp}
use Rattle.mv_ast.specs.declared.tree.Param.{Param}
use Rattle.mv_ast.specs.declared.tree.ParamKind.{ParamKind}
use Rattle.mv_ast.specs.declared.tree.Script.{Script}
use Rattle.mv_ast.specs.declared.tree.SetItem.{SetItem}
use Rattle.mv_ast.specs.declared.tree.Sort.{Sort}
use Rattle.mv_ast.specs.declared.tree.Span.{Span}
use Rattle.mv_ast.specs.declared.tree.Stmt.{Stmt}
use Rattle.mv_ast.specs.declared.tree.Stmt.TheVariants.{Select, Total, ForSelect, ForRows}
use Rattle.mv_ast.specs.declared.tree.TwoOp.{TwoOp}
use Rattle.mv_ast.specs.declared.tree.TwoOp.TheVariants.{Compare}
use Rattle.mv_ast.specs.declared.tree.VarDef.{VarDef}

abbrev pub lit_row_of : ℕ → List Lit → LitRow
lit_row_of token values = record { token = token; values = values }

abbrev pub row_col_of : Name → ColType → ColDef
row_col_of n k = record { name = n; kind = k; refers = None }

abbrev pub col_def_of : Name → ColType → Option Name → ColDef
col_def_of n k parent = record { name = n; kind = k; refers = parent }

abbrev pub table_of : Name → List ColDef → List Name → List LitRow → ItemKind
table_of n columns key rows = item.Table (record { name = n; columns = columns; key = key; rows = rows })

abbrev pub param_of : Name → ParamKind → Param
param_of n k = record { name = n; kind = k }

abbrev pub var_def_of : Name → Lit → VarDef
var_def_of n initial = record { name = n; initial = initial }

abbrev pub procedure_of : Name → List Param → Bool → List VarDef → List Stmt → ItemKind
procedure_of n params read_only vars body = item.Proc (record { name = n; params = params; read_only = read_only; vars = vars; body = body })

abbrev pub lit_rows_of : ℕ → List LitRow → LitRows
lit_rows_of token rows = record { token = token; rows = rows }

abbrev pub created : ℕ → ItemKind → Item
created token kind = record { token = token; kind = kind }

abbrev pub copy_of : ℕ → Name → Span → Item
copy_of token n span = record { token = token; kind = item.Copy (record { table = n; block = span }) }

abbrev pub call_of : ℕ → Name → List Arg → Item
call_of token n arguments = record { token = token; kind = item.Call (record { name = n; arguments = arguments }) }

abbrev pub journal_of : ℕ → Span → Item
journal_of token span = record { token = token; kind = item.Journal span }

abbrev pub script_of : List Item → Script
script_of items = record { items = items }

abbrev pub leaf : ℕ → ExprKind → Expr
leaf token kind = record { token = token; kind = kind }

abbrev pub prefixed : OneOp → ℕ → Expr → Expr
prefixed o token e = leaf token (One o e)

abbrev pub paired : TwoOp → Expr → Expr → Expr
paired o a b = leaf a.token (Two o a b)

abbrev pub paired_by : Expr → TwoOp × Expr → Expr
paired_by a next = paired next.0 a next.1

abbrev pub called : TwoOp → ℕ → Expr → Expr → Expr
called o token a b = leaf token (Two o a b)

abbrev pub all_prefixed : OneOp → List Lexeme → Expr → Expr
all_prefixed o [] e = e
all_prefixed o (l ∷ ls) e = prefixed o l.number (all_prefixed o ls e)

abbrev pub column_named : Name → Expr
column_named n = leaf n.token (Col n)

abbrev pub variable_or_field : Name → Option Name → Expr
variable_or_field n None = leaf n.token (Var n)
variable_or_field n (Some f) = leaf n.token (Field n f)

abbrev pub parenthesized : ℕ → Expr → Expr
parenthesized token e = leaf token e.kind

abbrev pub with_op : TwoOp → Expr → TwoOp × Expr
with_op o e = (o, e)

abbrev pub compared : Expr → Option (Op × Expr) → Expr
compared a None = a
compared a (Some next) = paired (Compare next.0) a next.1

abbrev pub with_comparison : Op → Expr → Op × Expr
with_comparison o e = (o, e)

abbrev pub cond_of : Name → Op → Expr → Cond
cond_of n o e = record { column = n; op = o; right = e }

abbrev pub sort_of : Name → Bool → Sort
sort_of n descending = record { column = n; descending = descending }

abbrev pub select_of : List Name → List Name → Name → List Cond → List Sort → Option Expr → ℕ → Stmt
select_of columns to table conds sorts offset token = Select token columns to table conds sorts offset

abbrev pub total_of : Agg → Name → Name → List Cond → ℕ → Stmt
total_of a to table conds token = Total token a to table conds

abbrev pub selected : ℕ → (ℕ → Stmt) → Stmt
selected token rest = rest token

abbrev pub for_plain_of : List Name → Name → List Cond → List Sort → List Stmt → ℕ → Name → Stmt
for_plain_of columns table conds sorts body token row = ForSelect token row false columns table conds sorts body

abbrev pub for_distinct_of : List Name → Name → List Cond → List Stmt → ℕ → Name → Stmt
for_distinct_of columns table conds body token row = ForSelect token row true columns table conds [] body

abbrev pub for_rows_of : Name → List Stmt → ℕ → Name → Stmt
for_rows_of rows body token row = ForRows token row rows body

abbrev pub looped : ℕ → Name → (ℕ → Name → Stmt) → Stmt
looped token row rest = rest token row

abbrev pub set_item_of : Name → Expr → SetItem
set_item_of n e = record { column = n; right = e }
