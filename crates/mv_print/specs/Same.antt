-- Trees that are the same except for positions: the numbers of their tokens, and where their blocks are.
use Rattle.std.specs.Prelude.{◌≡◌, ℕ, ◌+◌, List, [], map, slice_range}
use Rattle.std.specs.Option.{option_map}
use Rattle.mv_ast.specs.declared.tree.Agg.{Agg}
use Rattle.mv_ast.specs.declared.tree.Agg.TheVariants as agg
use Rattle.mv_ast.specs.declared.tree.Arg.{Arg}
use Rattle.mv_ast.specs.declared.tree.Arg.TheVariants as argument
use Rattle.mv_ast.specs.declared.tree.ColDef.{ColDef}
use Rattle.mv_ast.specs.declared.tree.Cond.{Cond}
use Rattle.mv_ast.specs.declared.tree.Expr.{Expr, Expr-F, fold-Expr}
use Rattle.mv_ast.specs.declared.tree.ExprKind.{ExprKind}
use Rattle.mv_ast.specs.declared.tree.ExprKind.TheOpen as open-kind
use Rattle.mv_ast.specs.declared.tree.ExprKind.TheOpen.{ExprKind-F}
use Rattle.mv_ast.specs.declared.tree.ExprKind.TheVariants as kind
use Rattle.mv_ast.specs.declared.tree.Item.{Item}
use Rattle.mv_ast.specs.declared.tree.ItemKind.{ItemKind}
use Rattle.mv_ast.specs.declared.tree.ItemKind.TheVariants.{Table, Proc, Copy, Call, Journal}
use Rattle.mv_ast.specs.declared.tree.Lit.{Lit}
use Rattle.mv_ast.specs.declared.tree.LitRow.{LitRow}
use Rattle.mv_ast.specs.declared.tree.Name.{Name}
use Rattle.mv_ast.specs.declared.tree.Param.{Param}
use Rattle.mv_ast.specs.declared.tree.ParamKind.{ParamKind}
use Rattle.mv_ast.specs.declared.tree.ParamKind.TheVariants as parameter
use Rattle.mv_ast.specs.declared.tree.Script.{Script}
use Rattle.mv_ast.specs.declared.tree.SetItem.{SetItem}
use Rattle.mv_ast.specs.declared.tree.Sort.{Sort}
use Rattle.mv_ast.specs.declared.tree.Span.{Span}
use Rattle.mv_ast.specs.declared.tree.Stmt.{Stmt}
use Rattle.mv_ast.specs.declared.tree.Stmt.TheOpen as open-statement
use Rattle.mv_ast.specs.declared.tree.Stmt.TheOpen.{Stmt-F}
use Rattle.mv_ast.specs.declared.tree.Stmt.TheFolds.{fold-Stmt}
use Rattle.mv_ast.specs.declared.tree.Stmt.TheVariants as statement
use Rattle.mv_ast.specs.declared.tree.VarDef.{VarDef}
use Rattle.mv_ast.specs.Trees.{leaf}

-- the same with each position set to 0
abbrev pub placeless_name : Name → Name
placeless_name n = record { text = n.text; token = 0 }

abbrev pub kind_step : ExprKind-F ExprKind Expr → ExprKind
kind_step (open-kind.Const v) = kind.Const v
kind_step (open-kind.Var n) = kind.Var (placeless_name n)
kind_step (open-kind.Field n c) = kind.Field (placeless_name n) (placeless_name c)
kind_step (open-kind.Col n) = kind.Col (placeless_name n)
kind_step (open-kind.One op a) = kind.One op a
kind_step (open-kind.Two op a b) = kind.Two op a b

abbrev pub expr_step : Expr-F ExprKind Expr → Expr
expr_step e = leaf 0 e.kind

abbrev pub placeless_expr : Expr → Expr
placeless_expr = fold-Expr ExprKind Expr kind_step expr_step

abbrev pub placeless_cond : Cond → Cond
placeless_cond c = record { column = placeless_name c.column; op = c.op; right = placeless_expr c.right }

abbrev pub placeless_sort : Sort → Sort
placeless_sort s = record { column = placeless_name s.column; descending = s.descending }

abbrev pub placeless_set : SetItem → SetItem
placeless_set i = record { column = placeless_name i.column; right = placeless_expr i.right }

abbrev pub placeless_agg : Agg → Agg
placeless_agg agg.CountAll = agg.CountAll
placeless_agg (agg.CountDistinct n) = agg.CountDistinct (placeless_name n)
placeless_agg (agg.Sum n) = agg.Sum (placeless_name n)
placeless_agg (agg.Min n) = agg.Min (placeless_name n)
placeless_agg (agg.Max n) = agg.Max (placeless_name n)

abbrev pub statement_step : Stmt-F Stmt → Stmt
statement_step (open-statement.Assign token to right) = statement.Assign 0 (placeless_name to) (placeless_expr right)
statement_step (open-statement.Select token columns to table conds sorts offset) =
    statement.Select 0 (map placeless_name columns) (map placeless_name to) (placeless_name table) (map placeless_cond conds) (map placeless_sort sorts) (option_map placeless_expr offset)
statement_step (open-statement.Total token agg to table conds) = statement.Total 0 (placeless_agg agg) (placeless_name to) (placeless_name table) (map placeless_cond conds)
statement_step (open-statement.ForSelect token row distinct columns table conds sorts body) =
    statement.ForSelect 0 (placeless_name row) distinct (map placeless_name columns) (placeless_name table) (map placeless_cond conds) (map placeless_sort sorts) body
statement_step (open-statement.ForRows token row rows body) = statement.ForRows 0 (placeless_name row) (placeless_name rows) body
statement_step (open-statement.Branch token test ys ns) = statement.Branch 0 (placeless_expr test) ys ns
statement_step (open-statement.Insert token table values) = statement.Insert 0 (placeless_name table) (map placeless_expr values)
statement_step (open-statement.Update token table items conds) = statement.Update 0 (placeless_name table) (map placeless_set items) (map placeless_cond conds)
statement_step (open-statement.Delete token table conds) = statement.Delete 0 (placeless_name table) (map placeless_cond conds)
statement_step (open-statement.Print token values) = statement.Print 0 (map placeless_expr values)
statement_step (open-statement.Rollback token reason) = statement.Rollback 0 reason

abbrev pub placeless_statement : Stmt → Stmt
placeless_statement = fold-Stmt Stmt statement_step

abbrev pub placeless_literal : Lit → Lit
placeless_literal l = record { value = l.value; token = 0 }

abbrev pub placeless_row : LitRow → LitRow
placeless_row r = record { token = 0; values = map placeless_literal r.values }

abbrev pub placeless_column : ColDef → ColDef
placeless_column c = record { name = placeless_name c.name; kind = c.kind; refers = option_map placeless_name c.refers }

abbrev pub placeless_param_kind : ParamKind → ParamKind
placeless_param_kind (parameter.One k) = parameter.One k
placeless_param_kind (parameter.Many columns) = parameter.Many (map placeless_column columns)

abbrev pub placeless_param : Param → Param
placeless_param p = record { name = placeless_name p.name; kind = placeless_param_kind p.kind }

abbrev pub placeless_variable : VarDef → VarDef
placeless_variable v = record { name = placeless_name v.name; initial = placeless_literal v.initial }

abbrev pub placeless_argument : Arg → Arg
placeless_argument (argument.One l) = argument.One (placeless_literal l)
placeless_argument (argument.Many rows) = argument.Many (record { token = 0; rows = map placeless_row rows.rows })

abbrev pub placeless_span : Span → Span
placeless_span s = record { token = 0; at = 0; len = 0; closed = s.closed }

abbrev pub placeless_kind : ItemKind → ItemKind
placeless_kind (Table t) =
    Table (record { name = placeless_name t.name; columns = map placeless_column t.columns; key = map placeless_name t.key; rows = map placeless_row t.rows })
placeless_kind (Proc p) =
    Proc (record { name = placeless_name p.name; params = map placeless_param p.params; read_only = p.read_only; vars = map placeless_variable p.vars; body = map placeless_statement p.body })
placeless_kind (Copy c) = Copy (record { table = placeless_name c.table; block = placeless_span c.block })
placeless_kind (Call c) = Call (record { name = placeless_name c.name; arguments = map placeless_argument c.arguments })
placeless_kind (Journal s) = Journal (placeless_span s)

-- the bytes of a block
abbrev pub span_bytes : List ℕ → Span → List ℕ
span_bytes bytes s = slice_range bytes s.at (s.at + s.len)

abbrev pub block_bytes : List ℕ → ItemKind → List ℕ
block_bytes bytes (Copy c) = span_bytes bytes c.block
block_bytes bytes (Journal s) = span_bytes bytes s
block_bytes bytes other = []

-- an item without its positions, and the bytes of its block
abbrev pub placeless : List ℕ → Item → ItemKind × List ℕ
placeless bytes i = (placeless_kind i.kind, block_bytes bytes i.kind)

-- The scripts are the same except for positions: without positions their items are equal, and their blocks have equal
-- bytes.
abbrev pub SameButPlaces : List ℕ → Script → List ℕ → Script → Type 0
SameButPlaces bytes s other t = map (placeless bytes) s.items ≡ map (placeless other) t.items
