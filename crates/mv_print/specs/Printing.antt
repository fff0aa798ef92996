-- How a script is printed: the tokens of its tree, and the whitespace after each. All of this is the project's own.
use Rattle.std.specs.Prelude.{ℕ, suc, ◌+◌, pos, negsuc, Bool, true, false, nat_lt, List, [], ◌∷◌, ◌++◌, Option, Some, None, map, slice_range, codes, decimal, if◌then◌else◌}
use Rattle.mv_values.specs.declared.schema.ColType.{ColType}
use Rattle.mv_values.specs.declared.schema.ColType.TheVariants as column
use Rattle.mv_values.specs.declared.value.Value.{Value}
use Rattle.mv_values.specs.declared.value.Value.TheVariants as value
use Rattle.mv_values.specs.declared.op.Op.{Op}
use Rattle.mv_values.specs.declared.op.Op.TheVariants.{Eq, Ne, Lt, Le, Gt, Ge}
use Rattle.mv_values.specs.Texts.{quoted}
use Rattle.mv_ast.specs.declared.lexeme.Terminal.{Terminal}
use Rattle.mv_ast.specs.declared.lexeme.Terminal.TheVariants as word
use Rattle.mv_ast.specs.declared.tree.Agg.{Agg}
use Rattle.mv_ast.specs.declared.tree.Agg.TheVariants as agg
use Rattle.mv_ast.specs.declared.tree.Arg.{Arg}
use Rattle.mv_ast.specs.declared.tree.Arg.TheVariants as argument
use Rattle.mv_ast.specs.declared.tree.ColDef.{ColDef}
use Rattle.mv_ast.specs.declared.tree.Cond.{Cond}
use Rattle.mv_ast.specs.declared.tree.Expr.{Expr, Expr-F, fold-Expr}
use Rattle.mv_ast.specs.declared.tree.ExprKind.TheOpen.{ExprKind-F, Const, Var, Field, Col, One, Two}
use Rattle.mv_ast.specs.declared.tree.Item.{Item}
use Rattle.mv_ast.specs.declared.tree.ItemKind.{ItemKind}
use Rattle.mv_ast.specs.declared.tree.ItemKind.TheVariants.{Table, Proc, Copy, Call, Journal}
use Rattle.mv_ast.specs.declared.tree.Lit.{Lit}
use Rattle.mv_ast.specs.declared.tree.LitRow.{LitRow}
use Rattle.mv_ast.specs.declared.tree.Name.{Name}
use Rattle.mv_ast.specs.declared.tree.OneOp.{OneOp}
use Rattle.mv_ast.specs.declared.tree.OneOp.TheVariants.{Neg, Not, TextOf}
use Rattle.mv_ast.specs.declared.tree.Param.{Param}
use Rattle.mv_ast.specs.declared.tree.ParamKind.{ParamKind}
use Rattle.mv_ast.specs.declared.tree.ParamKind.TheVariants as parameter
use Rattle.mv_ast.specs.declared.tree.ProcDef.{ProcDef}
use Rattle.mv_ast.specs.declared.tree.Script.{Script}
use Rattle.mv_ast.specs.declared.tree.SetItem.{SetItem}
use Rattle.mv_ast.specs.declared.tree.Sort.{Sort}
use Rattle.mv_ast.specs.declared.tree.Span.{Span}
use Rattle.mv_ast.specs.declared.tree.Stmt.{Stmt}
use Rattle.mv_ast.specs.declared.tree.Stmt.TheOpen.{Stmt-F, Assign, Select, Total, ForSelect, ForRows, Branch, Insert, Update, Delete, Print, Rollback}
use Rattle.mv_ast.specs.declared.tree.Stmt.TheFolds.{fold-Stmt}
use Rattle.mv_ast.specs.declared.tree.TableDef.{TableDef}
use Rattle.mv_ast.specs.declared.tree.TwoOp.{TwoOp}
use Rattle.mv_ast.specs.declared.tree.TwoOp.TheVariants.{Add, Sub, Mul, Div, Rem, Join, Compare, And, Or, Left, Contains}
use Rattle.mv_ast.specs.declared.tree.VarDef.{VarDef}
use Rattle.mv_ast.specs.Limits.{together}

-- a token, its bytes, and the whitespace after it
pub record Piece : Type 0 where
  pub kind : Terminal
  pub text : List ℕ
  pub gap : List ℕ

-- keywords and symbols as they are printed; empty for all other tokens
abbrev pub spelled : Terminal → List ℕ
spelled word.And = codes "and"
spelled word.Asc = codes "asc"
spelled word.Begin = codes "begin"
spelled word.By = codes "by"
spelled word.Call = codes "call"
spelled word.Contains = codes "contains"
spelled word.Copy = codes "copy"
spelled word.Count = codes "count"
spelled word.Create = codes "create"
spelled word.Declare = codes "declare"
spelled word.Delete = codes "delete"
spelled word.Desc = codes "desc"
spelled word.Distinct = codes "distinct"
spelled word.Do = codes "do"
spelled word.Else = codes "else"
spelled word.End = codes "end"
spelled word.For = codes "for"
spelled word.From = codes "from"
spelled word.If = codes "if"
spelled word.In = codes "in"
spelled word.Index = codes "index"
spelled word.Insert = codes "insert"
spelled word.Int = codes "int"
spelled word.Into = codes "into"
spelled word.Journal = codes "journal"
spelled word.Key = codes "key"
spelled word.Left = codes "left"
spelled word.Max = codes "max"
spelled word.Min = codes "min"
spelled word.Not = codes "not"
spelled word.Offset = codes "offset"
spelled word.Only = codes "only"
spelled word.Or = codes "or"
spelled word.Order = codes "order"
spelled word.Primary = codes "primary"
spelled word.Print = codes "print"
spelled word.Procedure = codes "procedure"
spelled word.Read = codes "read"
spelled word.References = codes "references"
spelled word.Rollback = codes "rollback"
spelled word.Rows = codes "rows"
spelled word.Select = codes "select"
spelled word.Set = codes "set"
spelled word.Sum = codes "sum"
spelled word.Table = codes "table"
spelled word.Text = codes "text"
spelled word.TextOf = codes "textof"
spelled word.Then = codes "then"
spelled word.Update = codes "update"
spelled word.Values = codes "values"
spelled word.Where = codes "where"
spelled word.Open = codes "("
spelled word.Close = codes ")"
spelled word.Comma = codes ","
spelled word.Semicolon = codes ";"
spelled word.Dot = codes "."
spelled word.Equal = codes "="
spelled word.NotEqual = codes "<>"
spelled word.Less = codes "<"
spelled word.LessOrEqual = codes "<="
spelled word.Greater = codes ">"
spelled word.GreaterOrEqual = codes ">="
spelled word.Plus = codes "+"
spelled word.Minus = codes "-"
spelled word.Star = codes "*"
spelled word.Slash = codes "/"
spelled word.Percent = codes "%"
spelled word.Bars = codes "||"
spelled word.Name = []
spelled word.Number = []
spelled word.Quoted = []
spelled word.Variable = []
spelled word.Block = []
spelled word.OpenBlock = []

-- a token followed by a space, one followed by LF, and one followed by nothing
abbrev pub spaced : Terminal → List ℕ → Piece
spaced kind text = record { kind = kind; text = text; gap = 32 ∷ [] }

abbrev pub ends_line : Terminal → List ℕ → Piece
ends_line kind text = record { kind = kind; text = text; gap = 10 ∷ [] }

abbrev pub alone : Terminal → List ℕ → Piece
alone kind text = record { kind = kind; text = text; gap = [] }

-- a keyword or a symbol; the `;` of a statement and of an item ends its line
abbrev pub key : Terminal → Piece
key t = spaced t (spelled t)

abbrev pub line_end : Piece
line_end = ends_line word.Semicolon (spelled word.Semicolon)

abbrev pub name_piece : Name → Piece
name_piece n = spaced word.Name n.text

abbrev pub variable_piece : Name → Piece
variable_piece n = spaced word.Variable (58 ∷ n.text)

abbrev pub number_piece : ℕ → Piece
number_piece n = spaced word.Number (decimal n)

abbrev pub text_piece : List ℕ → Piece
text_piece t = spaced word.Quoted (quoted t)

-- the text after one more piece, or after several
unfoldable pub put : List ℕ → Piece → List ℕ
put before p = before ++ (p.text ++ p.gap)

unfoldable pub written : List ℕ → List Piece → List ℕ
written before [] = before
written before (p ∷ ps) = written (put before p) ps

-- items, separated by a mark
abbrev pub separated : {A : Type 0} → Terminal → (A → List Piece) → List A → List Piece
separated mark f [] = []
separated mark f (x ∷ xs) = f x ++ together (map (λ y. key mark ∷ f y) xs)

abbrev pub listed : {A : Type 0} → (A → List Piece) → List A → List Piece
listed f xs = separated word.Comma f xs

abbrev pub name_pieces : Name → List Piece
name_pieces n = name_piece n ∷ []

abbrev pub variable_pieces : Name → List Piece
variable_pieces n = variable_piece n ∷ []

-- literals; the `-` of a negative number is a token of its own
abbrev pub value_pieces : Value → List Piece
value_pieces (value.Int (pos n)) = number_piece n ∷ []
value_pieces (value.Int (negsuc n)) = key word.Minus ∷ number_piece (suc n) ∷ []
value_pieces (value.Text t) = text_piece t ∷ []

abbrev pub literal_pieces : Lit → List Piece
literal_pieces l = value_pieces l.value

abbrev pub row_pieces : LitRow → List Piece
row_pieces r = key word.Open ∷ (listed literal_pieces r.values ++ key word.Close ∷ [])

abbrev pub type_pieces : ColType → List Piece
type_pieces column.Int = key word.Int ∷ []
type_pieces (column.Text n) = key word.Text ∷ key word.Open ∷ number_piece n ∷ key word.Close ∷ []

abbrev pub reference_pieces : Option Name → List Piece
reference_pieces None = []
reference_pieces (Some parent) = key word.References ∷ name_piece parent ∷ []

abbrev pub column_pieces : ColDef → List Piece
column_pieces c = name_piece c.name ∷ (type_pieces c.kind ++ reference_pieces c.refers)

-- Expressions. The level of an operator is its precedence: OR 0, AND 1, NOT 2, comparisons 3, sums 4, terms 5, a sign
-- 6, and all else 7. An operand that binds looser than its operator allows is printed in parentheses.
abbrev pub level : TwoOp → ℕ
level Or = 0
level And = 1
level (Compare op) = 3
level Add = 4
level Sub = 4
level Join = 4
level Mul = 5
level Div = 5
level Rem = 5
level Left = 7
level Contains = 7

-- LEFT and CONTAINS are printed as functions
abbrev pub is_call : TwoOp → Bool
is_call Left = true
is_call Contains = true
is_call op = false

-- binary operators are left-associative; comparisons aren't associative
abbrev pub left_level : TwoOp → ℕ
left_level (Compare op) = 4
left_level op = if is_call op then 0 else level op

abbrev pub right_level : TwoOp → ℕ
right_level op = if is_call op then 0 else level op + 1

abbrev pub op_word : Op → Terminal
op_word Eq = word.Equal
op_word Ne = word.NotEqual
op_word Lt = word.Less
op_word Le = word.LessOrEqual
op_word Gt = word.Greater
op_word Ge = word.GreaterOrEqual

abbrev pub two_word : TwoOp → Terminal
two_word Or = word.Or
two_word And = word.And
two_word (Compare op) = op_word op
two_word Add = word.Plus
two_word Sub = word.Minus
two_word Join = word.Bars
two_word Mul = word.Star
two_word Div = word.Slash
two_word Rem = word.Percent
two_word Left = word.Left
two_word Contains = word.Contains

-- parentheses, if they are needed
abbrev pub opened : Bool → List Piece
opened true = key word.Open ∷ []
opened false = []

abbrev pub closed : Bool → List Piece
closed true = key word.Close ∷ []
closed false = []

-- the pieces of an expression at a level
abbrev pub Leveled : Type 0
Leveled = ℕ → List Piece

-- prefix operators: the tokens before the operand, its level, and the tokens after it
abbrev pub one_lead : OneOp → Leveled
one_lead Neg n = opened (nat_lt 6 n) ++ key word.Minus ∷ []
one_lead Not n = opened (nat_lt 2 n) ++ key word.Not ∷ []
one_lead TextOf n = key word.TextOf ∷ key word.Open ∷ []

abbrev pub one_level : OneOp → ℕ
one_level Neg = 6
one_level Not = 2
one_level TextOf = 0

abbrev pub one_tail : OneOp → Leveled
one_tail Neg n = closed (nat_lt 6 n)
one_tail Not n = closed (nat_lt 2 n)
one_tail TextOf n = key word.Close ∷ []

abbrev pub one_pieces : OneOp → Leveled → Leveled
one_pieces op a n = one_lead op n ++ (a (one_level op) ++ one_tail op n)

-- binary operators: the tokens before, between and after the operands
abbrev pub two_lead : TwoOp → Leveled
two_lead op n = if is_call op then key (two_word op) ∷ key word.Open ∷ [] else opened (nat_lt (level op) n)

abbrev pub two_middle : TwoOp → Terminal
two_middle op = if is_call op then word.Comma else two_word op

abbrev pub two_tail : TwoOp → Leveled
two_tail op n = if is_call op then key word.Close ∷ [] else closed (nat_lt (level op) n)

abbrev pub two_pieces : TwoOp → Leveled → Leveled → Leveled
two_pieces op a b n = two_lead op n ++ (a (left_level op) ++ key (two_middle op) ∷ (b (right_level op) ++ two_tail op n))

abbrev pub kind_step : ExprKind-F Leveled Leveled → Leveled
kind_step (Const v) n = value_pieces v
kind_step (Var x) n = variable_piece x ∷ []
kind_step (Field x c) n = variable_piece x ∷ key word.Dot ∷ name_piece c ∷ []
kind_step (Col c) n = name_piece c ∷ []
kind_step (One op a) n = one_pieces op a n
kind_step (Two op a b) n = two_pieces op a b n

abbrev pub expr_step : Expr-F Leveled Leveled → Leveled
expr_step e n = e.kind n

abbrev pub expr_pieces : Expr → Leveled
expr_pieces = fold-Expr Leveled Leveled kind_step expr_step

abbrev pub whole_expr : Expr → List Piece
whole_expr e = expr_pieces e 0

-- the clauses of a statement; the right side of a test is a sum
abbrev pub cond_pieces : Cond → List Piece
cond_pieces c = name_piece c.column ∷ key (op_word c.op) ∷ expr_pieces c.right 4

abbrev pub conds_pieces : List Cond → List Piece
conds_pieces [] = []
conds_pieces (c ∷ cs) = key word.Where ∷ separated word.And cond_pieces (c ∷ cs)

abbrev pub direction_pieces : Bool → List Piece
direction_pieces true = key word.Desc ∷ []
direction_pieces false = []

abbrev pub sort_pieces : Sort → List Piece
sort_pieces s = name_piece s.column ∷ direction_pieces s.descending

abbrev pub sorts_pieces : List Sort → List Piece
sorts_pieces [] = []
sorts_pieces (s ∷ ss) = key word.Order ∷ key word.By ∷ listed sort_pieces (s ∷ ss)

abbrev pub offset_pieces : Option Expr → List Piece
offset_pieces None = []
offset_pieces (Some e) = key word.Offset ∷ whole_expr e

abbrev pub agg_pieces : Agg → List Piece
agg_pieces agg.CountAll = key word.Count ∷ key word.Open ∷ key word.Star ∷ key word.Close ∷ []
agg_pieces (agg.CountDistinct n) = key word.Count ∷ key word.Open ∷ key word.Distinct ∷ name_piece n ∷ key word.Close ∷ []
agg_pieces (agg.Sum n) = key word.Sum ∷ key word.Open ∷ name_piece n ∷ key word.Close ∷ []
agg_pieces (agg.Min n) = key word.Min ∷ key word.Open ∷ name_piece n ∷ key word.Close ∷ []
agg_pieces (agg.Max n) = key word.Max ∷ key word.Open ∷ name_piece n ∷ key word.Close ∷ []

abbrev pub distinct_pieces : Bool → List Piece
distinct_pieces true = key word.Distinct ∷ []
distinct_pieces false = []

abbrev pub set_pieces : SetItem → List Piece
set_pieces i = name_piece i.column ∷ key word.Equal ∷ whole_expr i.right

-- an ELSE without statements isn't printed
abbrev pub else_lead : {A : Type 0} → List A → List Piece
else_lead [] = []
else_lead (x ∷ xs) = key word.Else ∷ []

abbrev pub body_pieces : List (List Piece) → List Piece
body_pieces body = key word.Do ∷ (together body ++ key word.End ∷ key word.For ∷ line_end ∷ [])

-- the SELECT of a loop
abbrev pub query_pieces : Bool → List Name → Name → List Cond → List Sort → List Piece
query_pieces distinct columns table conds sorts =
    key word.Select ∷ (distinct_pieces distinct ++ (listed name_pieces columns ++ key word.From ∷ name_piece table ∷ (conds_pieces conds ++ sorts_pieces sorts)))

-- a statement, given the pieces of its nested statements
abbrev pub statement_step : Stmt-F (List Piece) → List Piece
statement_step (Assign token to right) = key word.Set ∷ variable_piece to ∷ key word.Equal ∷ (whole_expr right ++ line_end ∷ [])
statement_step (Select token columns to table conds sorts offset) =
    key word.Select ∷ (listed name_pieces columns ++ key word.Into ∷ (listed variable_pieces to ++ key word.From ∷ name_piece table
    ∷ (conds_pieces conds ++ (sorts_pieces sorts ++ (offset_pieces offset ++ line_end ∷ [])))))
statement_step (Total token agg to table conds) =
    key word.Select ∷ (agg_pieces agg ++ key word.Into ∷ variable_piece to ∷ key word.From ∷ name_piece table ∷ (conds_pieces conds ++ line_end ∷ []))
statement_step (ForSelect token row distinct columns table conds sorts body) =
    key word.For ∷ variable_piece row ∷ key word.In ∷ (query_pieces distinct columns table conds sorts ++ body_pieces body)
statement_step (ForRows token row rows body) = key word.For ∷ variable_piece row ∷ key word.In ∷ variable_piece rows ∷ body_pieces body
statement_step (Branch token test ys ns) =
    key word.If ∷ (whole_expr test ++ key word.Then ∷ (together ys ++ (else_lead ns ++ (together ns ++ key word.End ∷ key word.If ∷ line_end ∷ []))))
statement_step (Insert token table values) =
    key word.Insert ∷ key word.Into ∷ name_piece table ∷ key word.Values ∷ key word.Open ∷ (listed whole_expr values ++ key word.Close ∷ line_end ∷ [])
statement_step (Update token table items conds) = key word.Update ∷ name_piece table ∷ key word.Set ∷ (listed set_pieces items ++ (conds_pieces conds ++ line_end ∷ []))
statement_step (Delete token table conds) = key word.Delete ∷ key word.From ∷ name_piece table ∷ (conds_pieces conds ++ line_end ∷ [])
statement_step (Print token values) = key word.Print ∷ (listed whole_expr values ++ line_end ∷ [])
statement_step (Rollback token reason) = key word.Rollback ∷ text_piece reason ∷ line_end ∷ []

abbrev pub statement_pieces : Stmt → List Piece
statement_pieces = fold-Stmt (List Piece) statement_step

abbrev pub statements_pieces : List Stmt → List Piece
statements_pieces body = together (map statement_pieces body)

-- items
abbrev pub column_and_comma : ColDef → List Piece
column_and_comma c = column_pieces c ++ key word.Comma ∷ []

abbrev pub values_pieces : List LitRow → List Piece
values_pieces [] = []
values_pieces (r ∷ rs) = key word.Values ∷ listed row_pieces (r ∷ rs)

abbrev pub table_pieces : TableDef → List Piece
table_pieces t =
    key word.Create ∷ key word.Table ∷ name_piece t.name ∷ key word.Open ∷ (together (map column_and_comma t.columns)
    ++ key word.Primary ∷ key word.Key ∷ key word.Open ∷ (listed name_pieces t.key ++ key word.Close ∷ key word.Close ∷ (values_pieces t.rows ++ line_end ∷ [])))

abbrev pub param_kind_pieces : ParamKind → List Piece
param_kind_pieces (parameter.One k) = type_pieces k
param_kind_pieces (parameter.Many columns) = key word.Rows ∷ key word.Open ∷ (listed column_pieces columns ++ key word.Close ∷ [])

abbrev pub param_pieces : Param → List Piece
param_pieces p = variable_piece p.name ∷ param_kind_pieces p.kind

-- the `;` of a DECLARE doesn't end the line
abbrev pub declared_pieces : VarDef → List Piece
declared_pieces v = key word.Declare ∷ variable_piece v.name ∷ key word.Equal ∷ (literal_pieces v.initial ++ key word.Semicolon ∷ [])

abbrev pub read_only_pieces : Bool → List Piece
read_only_pieces true = key word.Read ∷ key word.Only ∷ []
read_only_pieces false = []

abbrev pub procedure_pieces : ProcDef → List Piece
procedure_pieces p =
    key word.Create ∷ key word.Procedure ∷ name_piece p.name ∷ key word.Open ∷ (listed param_pieces p.params ++ key word.Close ∷ (read_only_pieces p.read_only
    ++ (together (map declared_pieces p.vars) ++ key word.Begin ∷ (statements_pieces p.body ++ key word.End ∷ line_end ∷ []))))

-- a block: its bytes between the lines `<<` and `>>`; an open block has no line `>>`
abbrev pub block_piece : List ℕ → Bool → Piece
block_piece content true = alone word.Block (codes "<<\n" ++ (content ++ codes ">>\n"))
block_piece content false = alone word.OpenBlock (codes "<<\n" ++ content)

abbrev pub span_piece : List ℕ → Span → Piece
span_piece bytes s = block_piece (slice_range bytes s.at (s.at + s.len)) s.closed

abbrev pub arg_pieces : Arg → List Piece
arg_pieces (argument.One l) = literal_pieces l
arg_pieces (argument.Many rows) = key word.Rows ∷ key word.Open ∷ (listed row_pieces rows.rows ++ key word.Close ∷ [])

abbrev pub item_pieces : List ℕ → ItemKind → List Piece
item_pieces bytes (Table t) = table_pieces t
item_pieces bytes (Proc p) = procedure_pieces p
item_pieces bytes (Copy c) = key word.Copy ∷ name_piece c.table ∷ span_piece bytes c.block ∷ []
item_pieces bytes (Call c) = key word.Call ∷ name_piece c.name ∷ key word.Open ∷ (listed arg_pieces c.arguments ++ key word.Close ∷ line_end ∷ [])
item_pieces bytes (Journal s) = key word.Journal ∷ span_piece bytes s ∷ []

abbrev pub pieces_of : List ℕ → Item → List Piece
pieces_of bytes i = item_pieces bytes i.kind

abbrev pub script_pieces : List ℕ → Script → List Piece
script_pieces bytes s = together (map (pieces_of bytes) s.items)

-- a script as text, with its blocks taken from these bytes
abbrev pub printed : List ℕ → Script → List ℕ
printed bytes s = written [] (script_pieces bytes s)
