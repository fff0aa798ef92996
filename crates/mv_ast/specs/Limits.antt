-- Where tokens and scripts pass the limits of the language. These limits are this project's own.
use Rattle.std.specs.Prelude.{ℕ, ◌+◌, ◌-◌, Bool, true, false, not, ◌&&◌, ◌||◌, ◌==◌, nat_lt, List, [], ◌∷◌, ◌++◌, Option, Some, None, length, map, slice_get, option_to_list, if◌then◌else◌}
use Rattle.std.specs.Option.{option_map}
use Rattle.std.specs.List.{filter}
use Rattle.mv_ast.specs.declared.lexeme.Lexeme.{Lexeme}
use Rattle.mv_ast.specs.declared.lexeme.Terminal.{Terminal}
use Rattle.mv_ast.specs.declared.lexeme.Terminal.TheVariants as word
use Rattle.mv_ast.specs.declared.limit.PassedLimit.{PassedLimit}
use Rattle.mv_ast.specs.declared.limit.Which.{Which}
use Rattle.mv_ast.specs.declared.limit.Which.TheVariants as limit
use Rattle.mv_ast.specs.declared.tree.Arg.{Arg}
use Rattle.mv_ast.specs.declared.tree.Arg.TheVariants as argument
use Rattle.mv_ast.specs.declared.tree.CallDef.{CallDef}
use Rattle.mv_ast.specs.declared.tree.ColDef.{ColDef}
use Rattle.mv_ast.specs.declared.tree.Expr.{Expr}
use Rattle.mv_ast.specs.declared.tree.Item.{Item}
use Rattle.mv_ast.specs.declared.tree.ItemKind.{ItemKind}
use Rattle.mv_ast.specs.declared.tree.ItemKind.TheVariants.{Table, Proc, Copy, Call, Journal}
use Rattle.mv_ast.specs.declared.tree.Lit.{Lit}
use Rattle.mv_ast.specs.declared.tree.LitRow.{LitRow}
use Rattle.mv_ast.specs.declared.tree.Name.{Name}
use Rattle.mv_ast.specs.declared.tree.Param.{Param}
use Rattle.mv_ast.specs.declared.tree.ParamKind.{ParamKind}
use Rattle.mv_ast.specs.declared.tree.ParamKind.TheVariants as parameter
use Rattle.mv_ast.specs.declared.tree.ProcDef.{ProcDef}
use Rattle.mv_ast.specs.declared.tree.Script.{Script}
use Rattle.mv_ast.specs.declared.tree.SetItem.{SetItem}
use Rattle.mv_ast.specs.declared.tree.Sort.{Sort}
use Rattle.mv_ast.specs.declared.tree.Stmt.{Stmt}
use Rattle.mv_ast.specs.declared.tree.Stmt.TheOpen.{Stmt-F, Assign, Select, Total, ForSelect, ForRows, Branch, Insert, Update, Delete, Print, Rollback}
use Rattle.mv_ast.specs.declared.tree.Stmt.TheFolds.{fold-Stmt}
use Rattle.mv_ast.specs.declared.tree.TableDef.{TableDef}
use Rattle.mv_ast.specs.declared.tree.VarDef.{VarDef}
use Rattle.mv_ast.specs.Texts.{spelling, number_from, unquoted, greatest}

abbrev pub at_token : Which → ℕ → PassedLimit
at_token which token = record { which = which; token = token }

-- A prefix of the tokens is a list with its last token first.
abbrev pub is_end : Terminal → Bool
is_end word.End = true
is_end t = false

-- whether a prefix ends with END
abbrev pub is_behind_end : List Lexeme → Bool
is_behind_end [] = false
is_behind_end (l ∷ before) = is_end l.kind

-- `(` and BEGIN open a level, and so do IF and FOR unless they directly follow END
abbrev pub is_opening : Terminal → Bool → Bool
is_opening word.Open behind_end = true
is_opening word.Begin behind_end = true
is_opening word.If behind_end = not behind_end
is_opening word.For behind_end = not behind_end
is_opening t behind_end = false

-- `)` and END close a level
abbrev pub is_closing : Terminal → Bool
is_closing word.Close = true
is_closing word.End = true
is_closing t = false

abbrev pub deeper : Terminal → Bool → ℕ → ℕ
deeper t behind_end n = if is_opening t behind_end then n + 1 else (if is_closing t then n - 1 else n)

-- the nesting depth at the end of a prefix
abbrev pub depth : List Lexeme → ℕ
depth [] = 0
depth (l ∷ before) = deeper l.kind (is_behind_end before) (depth before)

-- `;`, `,` and blocks end a stretch
abbrev pub is_stop : Terminal → Bool
is_stop word.Semicolon = true
is_stop word.Comma = true
is_stop word.Block = true
is_stop word.OpenBlock = true
is_stop t = false

-- the number of tokens in a prefix after the last one that ends a stretch
abbrev pub stretch : List Lexeme → ℕ
stretch [] = 0
stretch (l ∷ before) = if is_stop l.kind then 0 else stretch before + 1

-- the limit that is passed at the last token of a prefix, if there is one
abbrev pub over : ℕ → List Lexeme → Option PassedLimit
over token front = if nat_lt 32 (depth front) then Some (at_token limit.Depth token) else (if nat_lt 1000 (stretch front) then Some (at_token limit.Stretch token) else None)

abbrev pub or_else : Option PassedLimit → Option PassedLimit → Option PassedLimit
or_else None other = other
or_else (Some p) other = Some p

-- where the tokens after a prefix first pass depth or stretch
unfoldable pub first_behind : List Lexeme → List Lexeme → Option PassedLimit
first_behind before [] = None
first_behind before (l ∷ ls) = or_else (over l.number (l ∷ before)) (first_behind (l ∷ before) ls)

-- where the tokens first pass depth or stretch
abbrev pub first_early : List Lexeme → Option PassedLimit
first_early lexemes = first_behind [] lexemes

-- the rank of a limit: its index among the limits
abbrev pub rank : Which → ℕ
rank limit.Depth = 0
rank limit.Stretch = 1
rank limit.Name = 2
rank limit.Literal = 3
rank limit.Text = 4
rank limit.Tables = 5
rank limit.Procedures = 6
rank limit.Columns = 7
rank limit.Key = 8
rank limit.Parameters = 9
rank limit.Variables = 10
rank limit.Statements = 11
rank limit.Calls = 12
rank limit.Rows = 13

-- the earlier token comes first; at the same token, the limit of lower rank
abbrev pub is_sooner : PassedLimit → PassedLimit → Bool
is_sooner p q = nat_lt p.token q.token || ((p.token == q.token) && nat_lt (rank p.which) (rank q.which))

abbrev pub sooner : Option PassedLimit → PassedLimit → Option PassedLimit
sooner None p = Some p
sooner (Some q) p = if is_sooner p q then Some p else Some q

-- whichever comes first: `best`, or one of a list
unfoldable pub soonest : Option PassedLimit → List PassedLimit → Option PassedLimit
soonest best [] = best
soonest best (p ∷ ps) = soonest (sooner best p) ps

-- a list with more than `most` items passes its limit at the first item after these
abbrev pub too_many : {A : Type 0} → Which → ℕ → (A → ℕ) → List A → List PassedLimit
too_many which most token items = option_to_list (option_map (λ x. at_token which (token x)) (slice_get items most))

-- the concatenation of lists
abbrev pub together : {A : Type 0} → List (List A) → List A
together [] = []
together (xs ∷ xss) = xs ++ together xss

abbrev pub when : Bool → PassedLimit → List PassedLimit
when true p = p ∷ []
when false p = []

-- The limits of a single token.
-- a name has at most 64 bytes, a number is at most the greatest INT, and a text has at most 4,000 bytes
abbrev pub own_passes : Terminal → List ℕ → ℕ → List PassedLimit
own_passes word.Name text token = when (nat_lt 64 (length text)) (at_token limit.Name token)
own_passes word.Variable text token = when (nat_lt 65 (length text)) (at_token limit.Name token)
own_passes word.Number text token = when (nat_lt greatest (number_from 0 text)) (at_token limit.Literal token)
own_passes word.Quoted text token = when (nat_lt 4000 (length (unquoted text))) (at_token limit.Text token)
own_passes t text token = []

-- the tokens are TEXT, `(` and a number
abbrev pub is_size_of : Terminal → Terminal → Terminal → Bool
is_size_of word.Text word.Open word.Number = true
is_size_of a b c = false

-- the number in TEXT ( n ) is from 1 to 4,000
abbrev pub is_size : ℕ → Bool
is_size n = nat_lt 0 n && nat_lt n 4001

abbrev pub size_passes : List ℕ → List Lexeme → List PassedLimit
size_passes bytes (a ∷ b ∷ c ∷ ls) = when (is_size_of a.kind b.kind c.kind && not (is_size (number_from 0 (spelling bytes c)))) (at_token limit.Text c.number)
size_passes bytes ls = []

-- all limits that single tokens pass
unfoldable pub token_passes : List ℕ → List Lexeme → List PassedLimit
token_passes bytes [] = []
token_passes bytes (l ∷ ls) = (own_passes l.kind (spelling bytes l) l.number ++ size_passes bytes (l ∷ ls)) ++ token_passes bytes ls

-- The first token of each item of a list. The DECLARE of a variable comes directly before its name.
abbrev pub name_token : Name → ℕ
name_token n = n.token

abbrev pub column_token : ColDef → ℕ
column_token c = c.name.token

abbrev pub param_token : Param → ℕ
param_token p = p.name.token

abbrev pub declared_token : VarDef → ℕ
declared_token v = v.name.token - 1

abbrev pub literal_token : Lit → ℕ
literal_token l = l.token

abbrev pub row_token : LitRow → ℕ
row_token r = r.token

abbrev pub expr_token : Expr → ℕ
expr_token e = e.token

abbrev pub sort_token : Sort → ℕ
sort_token s = s.column.token

abbrev pub set_token : SetItem → ℕ
set_token i = i.column.token

abbrev pub item_token : Item → ℕ
item_token i = i.token

-- a table, a ROWS parameter, a list of a statement and a literal row have at most 32 columns
abbrev pub columns_most : ℕ
columns_most = 32

abbrev pub row_passes : LitRow → List PassedLimit
row_passes r = too_many limit.Columns columns_most literal_token r.values

-- a table has at most 32 columns and 8 key columns; its rows aren't counted
abbrev pub table_passes : TableDef → List PassedLimit
table_passes t = too_many limit.Columns columns_most column_token t.columns ++ (too_many limit.Key 8 name_token t.key ++ together (map row_passes t.rows))

abbrev pub kind_passes : ParamKind → List PassedLimit
kind_passes (parameter.One k) = []
kind_passes (parameter.Many columns) = too_many limit.Columns columns_most column_token columns

abbrev pub param_passes : Param → List PassedLimit
param_passes p = kind_passes p.kind

-- a ROWS argument has at most 1,000 rows
abbrev pub argument_passes : Arg → List PassedLimit
argument_passes (argument.One l) = []
argument_passes (argument.Many rows) = too_many limit.Rows 1000 row_token rows.rows ++ together (map row_passes rows.rows)

abbrev pub call_passes : CallDef → List PassedLimit
call_passes c = together (map argument_passes c.arguments)

-- the limits that the lists of a statement pass, those of nested statements included
abbrev pub statement_step : Stmt-F (List PassedLimit) → List PassedLimit
statement_step (Assign token to right) = []
statement_step (Select token columns to table conds sorts offset) =
    too_many limit.Columns columns_most name_token columns ++ (too_many limit.Columns columns_most name_token to ++ too_many limit.Columns columns_most sort_token sorts)
statement_step (Total token agg to table conds) = []
statement_step (ForSelect token row distinct columns table conds sorts body) =
    too_many limit.Columns columns_most name_token columns ++ (too_many limit.Columns columns_most sort_token sorts ++ together body)
statement_step (ForRows token row rows body) = together body
statement_step (Branch token test ys ns) = together ys ++ together ns
statement_step (Insert token table values) = too_many limit.Columns columns_most expr_token values
statement_step (Update token table items conds) = too_many limit.Columns columns_most set_token items
statement_step (Delete token table conds) = []
statement_step (Print token values) = too_many limit.Columns columns_most expr_token values
statement_step (Rollback token reason) = []

abbrev pub statement_passes : Stmt → List PassedLimit
statement_passes = fold-Stmt (List PassedLimit) statement_step

-- the first tokens of a statement and of those nested in it, in the order of the text
abbrev pub tokens_step : Stmt-F (List ℕ) → List ℕ
tokens_step (Assign token to right) = token ∷ []
tokens_step (Select token columns to table conds sorts offset) = token ∷ []
tokens_step (Total token agg to table conds) = token ∷ []
tokens_step (ForSelect token row distinct columns table conds sorts body) = token ∷ together body
tokens_step (ForRows token row rows body) = token ∷ together body
tokens_step (Branch token test ys ns) = token ∷ (together ys ++ together ns)
tokens_step (Insert token table values) = token ∷ []
tokens_step (Update token table items conds) = token ∷ []
tokens_step (Delete token table conds) = token ∷ []
tokens_step (Print token values) = token ∷ []
tokens_step (Rollback token reason) = token ∷ []

abbrev pub statement_tokens : Stmt → List ℕ
statement_tokens = fold-Stmt (List ℕ) tokens_step

-- a procedure has at most 16 parameters, 64 declared variables and 1,000 statements, nested ones included
abbrev pub procedure_passes : ProcDef → List PassedLimit
procedure_passes p = too_many limit.Parameters 16 param_token p.params ++ (too_many limit.Variables 64 declared_token p.vars
    ++ (together (map param_passes p.params) ++ (together (map statement_passes p.body) ++ too_many limit.Statements 1000 (λ t. t) (together (map statement_tokens p.body)))))

abbrev pub item_passes : ItemKind → List PassedLimit
item_passes (Table t) = table_passes t
item_passes (Proc p) = procedure_passes p
item_passes (Copy c) = []
item_passes (Call c) = call_passes c
item_passes (Journal s) = []

abbrev pub passes_in : Item → List PassedLimit
passes_in i = item_passes i.kind

-- whether the limit counts items of this kind
abbrev pub is_counted : Which → ItemKind → Bool
is_counted limit.Tables (Table t) = true
is_counted limit.Procedures (Proc p) = true
is_counted limit.Calls (Call c) = true
is_counted which kind = false

abbrev pub too_many_items : Which → ℕ → List Item → List PassedLimit
too_many_items which most items = too_many which most item_token (filter (λ i. is_counted which i.kind) items)

-- a script has at most 64 tables, 256 procedures and 1,000,000 calls
abbrev pub script_passes : Script → List PassedLimit
script_passes s = too_many_items limit.Tables 64 s.items ++ (too_many_items limit.Procedures 256 s.items
    ++ (too_many_items limit.Calls 1000000 s.items ++ together (map passes_in s.items)))

-- the limit that a script passes first, other than depth and stretch
abbrev pub first_late : List ℕ → List Lexeme → Script → Option PassedLimit
first_late bytes lexemes script = soonest None (token_passes bytes lexemes ++ script_passes script)
