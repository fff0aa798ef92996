-- The grammar of scripts. Alternatives that begin with the same word are written together.
use Rattle.std.specs.Prelude.{◌≡◌, ◌++◌, drop, List, [], ◌∷◌, ℕ, zero, suc, ◌+◌, ◌-◌, min, Bool, true, false, Option, Some, None, pos, ◌-ℤ◌}
use Rattle.mv_values.specs.declared.schema.ColType.{ColType}
use Rattle.mv_values.specs.declared.schema.ColType.TheVariants as column
use Rattle.mv_values.specs.declared.value.Value.TheVariants as value
use Rattle.mv_values.specs.declared.op.Op.{Op}
use Rattle.mv_values.specs.declared.op.Op.TheVariants.{Eq, Ne, Lt, Le, Gt, Ge}
use Rattle.mv_ast.specs.declared.lexeme.Lexeme.{Lexeme}
use Rattle.mv_ast.specs.declared.lexeme.Terminal.{Terminal}
use Rattle.mv_ast.specs.declared.lexeme.Terminal.TheVariants as word
use Rattle.mv_ast.specs.declared.tree.Agg.{Agg}
use Rattle.mv_ast.specs.declared.tree.Agg.TheVariants as agg
use Rattle.mv_ast.specs.declared.tree.Arg.{Arg}
use Rattle.mv_ast.specs.declared.tree.Arg.TheVariants as argument
use Rattle.mv_ast.specs.declared.tree.ColDef.{ColDef}
use Rattle.mv_ast.specs.declared.tree.Cond.{Cond}
use Rattle.mv_ast.specs.declared.tree.Expr.{Expr}
use Rattle.mv_ast.specs.declared.tree.ExprKind.TheVariants.{Const}
use Rattle.mv_ast.specs.declared.tree.Item.{Item}
use Rattle.mv_ast.specs.declared.tree.ItemKind.{ItemKind}
use Rattle.mv_ast.specs.declared.tree.Lit.{Lit}
use Rattle.mv_ast.specs.declared.tree.LitRow.{LitRow}
use Rattle.mv_ast.specs.declared.tree.LitRows.{LitRows}
use Rattle.mv_ast.specs.declared.tree.Name.{Name}
use Rattle.mv_ast.specs.declared.tree.OneOp.TheVariants.{Neg, Not, TextOf}
use Rattle.mv_ast.specs.declared.tree.Param.{Param}
use Rattle.mv_ast.specs.declared.tree.ParamKind.{ParamKind}
use Rattle.mv_ast.specs.declared.tree.ParamKind.TheVariants as parameter
use Rattle.mv_ast.specs.declared.tree.Script.{Script}
use Rattle.mv_ast.specs.declared.tree.SetItem.{SetItem}
use Rattle.mv_ast.specs.declared.tree.Sort.{Sort}
use Rattle.mv_ast.specs.declared.tree.Span.{Span}
use Rattle.mv_ast.specs.declared.tree.Stmt.{Stmt}
use Rattle.mv_ast.specs.declared.tree.Stmt.TheVariants.{Assign, Branch, Insert, Update, Delete, Print, Rollback}
use Rattle.mv_ast.specs.declared.tree.TwoOp.{TwoOp}
use Rattle.mv_ast.specs.declared.tree.TwoOp.TheVariants.{Add, Sub, Mul, Div, Rem, Join, And, Or, Left, Contains}
use Rattle.mv_ast.specs.declared.tree.VarDef.{VarDef}
use Rattle.mv_ast.specs.Trees.{lit_row_of, row_col_of, col_def_of, table_of, param_of, var_def_of, procedure_of, lit_rows_of, created, copy_of, call_of, journal_of, script_of, leaf, prefixed, paired, paired_by, called, all_prefixed, column_named, variable_or_field, parenthesized, with_op, compared, with_comparison, cond_of, sort_of, select_of, total_of, selected, for_plain_of, for_distinct_of, for_rows_of, looped, set_item_of}
use Rattle.mv_ast.specs.Parts.{Part, give, one, both, either, left, expression, statement, Inner, Is, Begins}
use Rattle.mv_ast.specs.Texts.{spelling, lower, number, unquoted, first_line, last_line}

infixl 50 ◌⊛◌ ◌◂◌ ◌▸◌
-- sequences: a function and its next argument; a part before one whose value is dropped; a part after such a one
abbrev pub ◌⊛◌ : {A B : Type 0} → Part (A → B) → Part A → Part B
p ⊛ q = both (λ f a. f a) p q

abbrev pub ◌◂◌ : {A B : Type 0} → Part A → Part B → Part A
p ◂ q = both (λ a b. a) p q

abbrev pub ◌▸◌ : {A B : Type 0} → Part A → Part B → Part B
p ▸ q = both (λ a b. b) p q

-- the number of a token
abbrev pub place : Terminal → Part ℕ
place t = give (λ (l : Lexeme). l.number) ⊛ one t

-- { p }, p { , p }, [ p ] and an optional list
abbrev pub added : {A : Type 0} → List A → A → List A
added vs v = vs ++ v ∷ []

abbrev pub single : {A : Type 0} → A → List A
single v = v ∷ []

abbrev pub many : {A : Type 0} → Part A → Part (List A)
many p = left added (give []) p

abbrev pub separated : {A B : Type 0} → Part B → Part A → Part (List A)
separated mark p = left added (give single ⊛ p) (mark ▸ p)

abbrev pub commas : {A : Type 0} → Part A → Part (List A)
commas p = separated (one word.Comma) p

abbrev pub optional : {A : Type 0} → Part A → Part (Option A)
optional p = either (give Some ⊛ p) (give None)

abbrev pub or_none : {A : Type 0} → Part (List A) → Part (List A)
or_none p = either p (give [])

-- a part in parentheses
abbrev pub in_parens : {A : Type 0} → Part A → Part A
in_parens p = one word.Open ▸ p ◂ one word.Close

module _ (bytes : List ℕ) where
  -- names, variables, numbers and texts, as they are in the tree
  abbrev pub name_of : Lexeme → Name
  name_of l = record { text = lower (spelling bytes l); token = l.number }

  abbrev pub variable_of : Lexeme → Name
  variable_of l = record { text = lower (drop 1 (spelling bytes l)); token = l.number }

  abbrev pub number_of : Lexeme → ℕ
  number_of l = number (spelling bytes l)

  abbrev pub text_of : Lexeme → List ℕ
  text_of l = unquoted (spelling bytes l)

  unfoldable pub name : Part Name
  name = give name_of ⊛ one word.Name

  unfoldable pub variable : Part Name
  variable = give variable_of ⊛ one word.Variable

  -- literal = [ - ] Number | Text
  abbrev pub positive_of : Lexeme → Lit
  positive_of l = record { value = value.Int (pos (number_of l)); token = l.number }

  abbrev pub negative_of : Lexeme → Lexeme → Lit
  negative_of minus l = record { value = value.Int (pos 0 -ℤ pos (number_of l)); token = minus.number }

  abbrev pub quoted_of : Lexeme → Lit
  quoted_of l = record { value = value.Text (text_of l); token = l.number }

  unfoldable pub literal : Part Lit
  literal = either (give negative_of ⊛ one word.Minus ⊛ one word.Number) (either (give positive_of ⊛ one word.Number) (give quoted_of ⊛ one word.Quoted))

  -- litrow = ( literal { , literal } )
  unfoldable pub lit_row : Part LitRow
  lit_row = give lit_row_of ⊛ place word.Open ⊛ commas literal ◂ one word.Close

  -- type = INT | TEXT ( Number )
  abbrev pub text_column : Lexeme → ColType
  text_column l = column.Text (min (number_of l) 65535)

  unfoldable pub column_type : Part ColType
  column_type = either (one word.Int ▸ give column.Int) (one word.Text ▸ in_parens (give text_column ⊛ one word.Number))

  -- rowcol = name type
  unfoldable pub row_col : Part ColDef
  row_col = give row_col_of ⊛ name ⊛ column_type

  -- coldef = name type [ REFERENCES name ]
  unfoldable pub col_def : Part ColDef
  col_def = give col_def_of ⊛ name ⊛ column_type ⊛ optional (one word.References ▸ name)

  -- table = TABLE name ( coldef { , coldef } , PRIMARY KEY ( name { , name } ) ) [ VALUES litrow { , litrow } ] ;
  -- coldef , { coldef , }
  unfoldable pub columns : Part (List ColDef)
  columns = left added (give single ⊛ col_def ◂ one word.Comma) (col_def ◂ one word.Comma)

  unfoldable pub opening_rows : Part (List LitRow)
  opening_rows = or_none (one word.Values ▸ commas lit_row)

  unfoldable pub table : Part ItemKind
  table = give table_of ◂ one word.Table ⊛ name ◂ one word.Open ⊛ columns ◂ one word.Primary ◂ one word.Key ⊛ in_parens (commas name) ◂ one word.Close
      ⊛ opening_rows ◂ one word.Semicolon

  -- param = Variable type | Variable ROWS ( rowcol { , rowcol } )
  unfoldable pub param_kind : Part ParamKind
  param_kind = either (one word.Rows ▸ (give parameter.Many ⊛ in_parens (commas row_col))) (give parameter.One ⊛ column_type)

  unfoldable pub param : Part Param
  param = give param_of ⊛ variable ⊛ param_kind

  -- DECLARE Variable = literal ;
  unfoldable pub declaration : Part VarDef
  declaration = give var_def_of ◂ one word.Declare ⊛ variable ◂ one word.Equal ⊛ literal ◂ one word.Semicolon

  -- [ READ ONLY ]
  unfoldable pub read_only : Part Bool
  read_only = either (one word.Read ▸ one word.Only ▸ give true) (give false)

  -- procedure = PROCEDURE name ( [ param { , param } ] ) [ READ ONLY ] { declaration } BEGIN { stmt } END ;
  unfoldable pub procedure : Part ItemKind
  procedure = give procedure_of ◂ one word.Procedure ⊛ name ⊛ in_parens (or_none (commas param)) ⊛ read_only ⊛ many declaration
      ◂ one word.Begin ⊛ many statement ◂ one word.End ◂ one word.Semicolon

  -- Block or OpenBlock
  abbrev pub closed_of : Lexeme → Span
  closed_of l = let text = spelling bytes l in
      record { token = l.number; at = l.at + first_line text; len = l.len - first_line text - last_line text; closed = true }

  abbrev pub open_of : Lexeme → Span
  open_of l = let text = spelling bytes l in record { token = l.number; at = l.at + first_line text; len = l.len - first_line text; closed = false }

  unfoldable pub block : Part Span
  block = either (give closed_of ⊛ one word.Block) (give open_of ⊛ one word.OpenBlock)

  -- rows = ROWS ( [ litrow { , litrow } ] )
  unfoldable pub lit_rows : Part LitRows
  lit_rows = give lit_rows_of ⊛ place word.Rows ⊛ in_parens (or_none (commas lit_row))

  -- arg = rows | literal
  unfoldable pub arg : Part Arg
  arg = either (give argument.Many ⊛ lit_rows) (give argument.One ⊛ literal)

  -- item = CREATE table | CREATE procedure | COPY name Block | CALL name ( [ arg { , arg } ] ) ; | JOURNAL Block
  unfoldable pub create : Part Item
  create = give created ⊛ place word.Create ⊛ either table procedure

  unfoldable pub copy : Part Item
  copy = give copy_of ⊛ place word.Copy ⊛ name ⊛ block

  unfoldable pub call : Part Item
  call = give call_of ⊛ place word.Call ⊛ name ⊛ in_parens (or_none (commas arg)) ◂ one word.Semicolon

  unfoldable pub journal : Part Item
  journal = give journal_of ⊛ place word.Journal ⊛ block

  unfoldable pub an_item : Part Item
  an_item = either create (either copy (either call journal))

  -- script = { item }
  unfoldable pub script : Part Script
  script = give script_of ⊛ many an_item

  -- op = `=` | `<>` | `<` | `<=` | `>` | `>=`
  unfoldable pub op : Part Op
  op = either (one word.Equal ▸ give Eq) (either (one word.NotEqual ▸ give Ne) (either (one word.Less ▸ give Lt)
      (either (one word.LessOrEqual ▸ give Le) (either (one word.Greater ▸ give Gt) (one word.GreaterOrEqual ▸ give Ge)))))

  -- the alternatives of a primary expression
  abbrev pub const_number : Lexeme → Expr
  const_number l = leaf l.number (Const (value.Int (pos (number_of l))))

  abbrev pub const_text : Lexeme → Expr
  const_text l = leaf l.number (Const (value.Text (text_of l)))

  abbrev pub two_arguments : TwoOp → Terminal → Part Expr
  two_arguments o t = give (called o) ⊛ place t ◂ one word.Open ⊛ expression ◂ one word.Comma ⊛ expression ◂ one word.Close

  unfoldable pub variable_expr : Part Expr
  variable_expr = give variable_or_field ⊛ variable ⊛ optional (one word.Dot ▸ name)

  unfoldable pub in_parentheses : Part Expr
  in_parentheses = give parenthesized ⊛ place word.Open ⊛ expression ◂ one word.Close

  unfoldable pub left_call : Part Expr
  left_call = two_arguments Left word.Left

  unfoldable pub contains_call : Part Expr
  contains_call = two_arguments Contains word.Contains

  unfoldable pub text_of_call : Part Expr
  text_of_call = give (prefixed TextOf) ⊛ place word.TextOf ⊛ in_parens expression

  -- prim = Number | Text | Variable | Variable . name | name | ( expr )
  --     | LEFT ( expr , expr ) | TEXTOF ( expr ) | CONTAINS ( expr , expr )
  unfoldable pub prim : Part Expr
  prim = either (give const_number ⊛ one word.Number) (either (give const_text ⊛ one word.Quoted) (either variable_expr
      (either (give column_named ⊛ name) (either in_parentheses (either left_call (either text_of_call contains_call))))))

  -- fac = - fac | prim
  unfoldable pub fac : Part Expr
  fac = give (all_prefixed Neg) ⊛ many (one word.Minus) ⊛ prim

  -- term = fac { ( * | / | % ) fac }
  unfoldable pub term_op : Part TwoOp
  term_op = either (one word.Star ▸ give Mul) (either (one word.Slash ▸ give Div) (one word.Percent ▸ give Rem))

  unfoldable pub term : Part Expr
  term = left paired_by fac (give with_op ⊛ term_op ⊛ fac)

  -- sum = term { ( + | - | two bars ) term }
  unfoldable pub sum_op : Part TwoOp
  sum_op = either (one word.Plus ▸ give Add) (either (one word.Minus ▸ give Sub) (one word.Bars ▸ give Join))

  unfoldable pub sum : Part Expr
  sum = left paired_by term (give with_op ⊛ sum_op ⊛ term)

  -- comp = sum [ op sum ]
  unfoldable pub comp : Part Expr
  comp = give compared ⊛ sum ⊛ optional (give with_comparison ⊛ op ⊛ sum)

  -- neg = NOT neg | comp
  unfoldable pub neg : Part Expr
  neg = give (all_prefixed Not) ⊛ many (one word.Not) ⊛ comp

  -- conj = neg { AND neg }
  unfoldable pub conj : Part Expr
  conj = left (paired And) neg (one word.And ▸ neg)

  -- expr = conj { OR conj }
  unfoldable pub expr : Part Expr
  expr = left (paired Or) conj (one word.Or ▸ conj)

  -- where = WHERE test { AND test }, test = name op sum
  unfoldable pub cond : Part Cond
  cond = give cond_of ⊛ name ⊛ op ⊛ sum

  unfoldable pub conds : Part (List Cond)
  conds = or_none (one word.Where ▸ separated (one word.And) cond)

  -- order = ORDER BY name [ ASC | DESC ] { , name [ ASC | DESC ] }
  unfoldable pub direction : Part Bool
  direction = either (one word.Asc ▸ give false) (either (one word.Desc ▸ give true) (give false))

  unfoldable pub sort : Part Sort
  sort = give sort_of ⊛ name ⊛ direction

  unfoldable pub sorts : Part (List Sort)
  sorts = or_none (one word.Order ▸ one word.By ▸ commas sort)

  -- SET Variable = expr ;
  unfoldable pub assign : Part Stmt
  assign = give Assign ⊛ place word.Set ⊛ variable ◂ one word.Equal ⊛ expression ◂ one word.Semicolon

  -- SELECT names INTO vars FROM name [ where ] [ order ] [ OFFSET expr ] ;
  unfoldable pub select_columns : Part (ℕ → Stmt)
  select_columns = give select_of ⊛ commas name ◂ one word.Into ⊛ commas variable ◂ one word.From ⊛ name ⊛ conds ⊛ sorts
      ⊛ optional (one word.Offset ▸ expression) ◂ one word.Semicolon

  -- agg = COUNT ( * ) | COUNT ( DISTINCT name ) | SUM ( name ) | MIN ( name ) | MAX ( name )
  unfoldable pub counted : Part Agg
  counted = either (one word.Star ▸ give agg.CountAll) (one word.Distinct ▸ (give agg.CountDistinct ⊛ name))

  unfoldable pub aggregate : Part Agg
  aggregate = either (one word.Count ▸ in_parens counted) (either (one word.Sum ▸ (give agg.Sum ⊛ in_parens name))
      (either (one word.Min ▸ (give agg.Min ⊛ in_parens name)) (one word.Max ▸ (give agg.Max ⊛ in_parens name))))

  -- SELECT agg INTO Variable FROM name [ where ] ;
  unfoldable pub total : Part (ℕ → Stmt)
  total = give total_of ⊛ aggregate ◂ one word.Into ⊛ variable ◂ one word.From ⊛ name ⊛ conds ◂ one word.Semicolon

  unfoldable pub select : Part Stmt
  select = give selected ⊛ place word.Select ⊛ either select_columns total

  -- DO { stmt } END FOR ;
  unfoldable pub loop_body : Part (List Stmt)
  loop_body = one word.Do ▸ many statement ◂ one word.End ◂ one word.For ◂ one word.Semicolon

  -- FOR Variable IN SELECT names FROM name [ where ] [ order ] body
  -- FOR Variable IN SELECT DISTINCT names FROM name [ where ] body
  -- FOR Variable IN Variable body
  unfoldable pub for_plain : Part (ℕ → Name → Stmt)
  for_plain = give for_plain_of ⊛ commas name ◂ one word.From ⊛ name ⊛ conds ⊛ sorts ⊛ loop_body

  unfoldable pub for_distinct : Part (ℕ → Name → Stmt)
  for_distinct = give for_distinct_of ◂ one word.Distinct ⊛ commas name ◂ one word.From ⊛ name ⊛ conds ⊛ loop_body

  unfoldable pub for_rows : Part (ℕ → Name → Stmt)
  for_rows = give for_rows_of ⊛ variable ⊛ loop_body

  unfoldable pub for_each : Part Stmt
  for_each = give looped ⊛ place word.For ⊛ variable ◂ one word.In ⊛ either (one word.Select ▸ either for_distinct for_plain) for_rows

  -- IF expr THEN { stmt } [ ELSE { stmt } ] END IF ;
  unfoldable pub otherwise : Part (List Stmt)
  otherwise = or_none (one word.Else ▸ many statement)

  unfoldable pub branch : Part Stmt
  branch = give Branch ⊛ place word.If ⊛ expression ◂ one word.Then ⊛ many statement ⊛ otherwise ◂ one word.End ◂ one word.If ◂ one word.Semicolon

  -- INSERT INTO name VALUES ( expr { , expr } ) ;
  unfoldable pub insert : Part Stmt
  insert = give Insert ⊛ place word.Insert ◂ one word.Into ⊛ name ◂ one word.Values ⊛ in_parens (commas expression) ◂ one word.Semicolon

  -- UPDATE name SET name = expr { , name = expr } [ where ] ;
  unfoldable pub set_item : Part SetItem
  set_item = give set_item_of ⊛ name ◂ one word.Equal ⊛ expression

  unfoldable pub update : Part Stmt
  update = give Update ⊛ place word.Update ⊛ name ◂ one word.Set ⊛ commas set_item ⊛ conds ◂ one word.Semicolon

  -- DELETE FROM name [ where ] ;
  unfoldable pub delete : Part Stmt
  delete = give Delete ⊛ place word.Delete ◂ one word.From ⊛ name ⊛ conds ◂ one word.Semicolon

  -- PRINT expr { , expr } ;
  unfoldable pub print : Part Stmt
  print = give Print ⊛ place word.Print ⊛ commas expression ◂ one word.Semicolon

  -- ROLLBACK Text ;
  unfoldable pub rollback : Part Stmt
  rollback = give Rollback ⊛ place word.Rollback ⊛ (give text_of ⊛ one word.Quoted) ◂ one word.Semicolon

  unfoldable pub stmt : Part Stmt
  stmt = either assign (either select (either for_each (either branch (either insert (either update (either delete (either print rollback)))))))

  -- nested expressions and statements, up to this many levels deep
  unfoldable pub inner : ℕ → Inner
  inner zero = record { is_expression = λ ts v. ⊥; is_statement = λ ts v. ⊥; begins_expression = λ ts. ts ≡ []; begins_statement = λ ts. ts ≡ [] }
  inner (suc d) = record {
    is_expression = Is (inner d) expr;
    is_statement = Is (inner d) stmt;
    begins_expression = Begins (inner d) expr;
    begins_statement = Begins (inner d) stmt;
  }
