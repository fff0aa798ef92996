-- All faults of names and types in a script. The rules are this project's own.
use Rattle.std.specs.Prelude.{ℕ, Bool, true, false, not, List, [], ◌∷◌, ◌++◌, length, map, Option, Some, None, nat_le, ◌==◌, if◌then◌else◌}
use Rattle.std.specs.List.{flat_map}
use Rattle.mv_values.specs.declared.schema.ColType.{ColType}
use Rattle.mv_values.specs.declared.schema.ColType.TheVariants as column
use Rattle.mv_values.specs.declared.value.Value.{Value}
use Rattle.mv_values.specs.declared.value.Value.TheVariants as value
use Rattle.mv_ast.specs.declared.tree.Name.{Name}
use Rattle.mv_ast.specs.declared.tree.Lit.{Lit}
use Rattle.mv_ast.specs.declared.tree.LitRow.{LitRow}
use Rattle.mv_ast.specs.declared.tree.ColDef.{ColDef}
use Rattle.mv_ast.specs.declared.tree.TableDef.{TableDef}
use Rattle.mv_ast.specs.declared.tree.Param.{Param}
use Rattle.mv_ast.specs.declared.tree.ParamKind.{ParamKind}
use Rattle.mv_ast.specs.declared.tree.ParamKind.TheVariants as param
use Rattle.mv_ast.specs.declared.tree.VarDef.{VarDef}
use Rattle.mv_ast.specs.declared.tree.ProcDef.{ProcDef}
use Rattle.mv_ast.specs.declared.tree.CopyDef.{CopyDef}
use Rattle.mv_ast.specs.declared.tree.Arg.{Arg}
use Rattle.mv_ast.specs.declared.tree.Arg.TheVariants as arg
use Rattle.mv_ast.specs.declared.tree.CallDef.{CallDef}
use Rattle.mv_ast.specs.declared.tree.Script.{Script}
use Rattle.mv_names.specs.declared.fault.TokenFault.{TokenFault}
use Rattle.mv_names.specs.declared.parts.Parts.{Parts}
use Rattle.mv_names.specs.First.{unknown, wrong, when}
use Rattle.mv_names.specs.Named.{Text, is_named, first_named}
use Rattle.mv_names.specs.Items.{parts_of, lates}
use Rattle.mv_names.specs.Scope.{type_in, column_type, scope_of, found}
use Rattle.mv_names.specs.Typing.{clash}
use Rattle.mv_names.specs.Writes.{writes}
use Rattle.mv_names.specs.Statements.{doubles, table_named, missing_table, statements}

-- Literals

-- the value has the type, and a text is no longer than the type allows
abbrev pub fits : ColType → Value → Bool
fits column.Int (value.Int z) = true
fits column.Int (value.Text t) = false
fits (column.Text n) (value.Int z) = false
fits (column.Text n) (value.Text t) = nat_le (length t) n

abbrev pub literal : ColType → Lit → List TokenFault
literal kind l = when (not (fits kind l.value)) (wrong l.token)

-- a literal for each column
abbrev pub literals : List ColDef → List Lit → List TokenFault
literals cs [] = []
literals [] (l ∷ ls) = []
literals (c ∷ cs) (l ∷ ls) = literal c.kind l ++ literals cs ls

-- the row has a literal for each column, and each literal fits
abbrev pub row : List ColDef → LitRow → List TokenFault
row columns r = if length r.values == length columns then literals columns r.values else wrong r.token ∷ []

abbrev pub rows : List ColDef → List LitRow → List TokenFault
rows columns rs = flat_map (row columns) rs

-- Tables

abbrev pub column_doubles : List ColDef → List TokenFault
column_doubles columns = doubles (λ (c : ColDef). c.name) [] columns

abbrev pub missing_key : List ColDef → Name → List TokenFault
missing_key columns n = when (not (is_named (λ (c : ColDef). c.name.text) columns n.text)) (unknown n.token)

abbrev pub key_doubles : List Name → List TokenFault
key_doubles key = doubles (λ (n : Name). n) [] key

-- A value of this type can be the key of a table with these columns and key columns: there is one key column, and it
-- isn't of the other type. The lengths of texts may differ.
abbrev pub can_be_key : ColType → List ColDef → List Name → Bool
can_be_key kind columns [] = false
can_be_key kind columns (k ∷ []) = not (clash (type_in kind) (column_type columns k.text))
can_be_key kind columns (k ∷ l ∷ ks) = false

-- the parent table is there, and a value of this type can be its key
abbrev pub parent : ColType → Name → Option TableDef → List TokenFault
parent kind n None = unknown n.token ∷ []
parent kind n (Some t) = when (not (can_be_key kind t.columns t.key)) (wrong n.token)

abbrev pub reference : List TableDef → ColType → Option Name → List TokenFault
reference tables kind None = []
reference tables kind (Some n) = parent kind n (table_named tables n.text)

-- the column's REFERENCES, if it has it
abbrev pub column_reference : List TableDef → ColDef → List TokenFault
column_reference tables c = reference tables c.kind c.refers

abbrev pub table : List TableDef → TableDef → List TokenFault
table tables t =
    column_doubles t.columns ++ flat_map (column_reference tables) t.columns ++ flat_map (missing_key t.columns) t.key ++ key_doubles t.key ++ rows t.columns t.rows

-- Procedures

abbrev pub param_columns : ParamKind → List TokenFault
param_columns (param.One kind) = []
param_columns (param.Many columns) = column_doubles columns

-- the initial text of a variable has at most 4,000 bytes
abbrev pub begins : Value → Bool
begins (value.Int z) = true
begins (value.Text t) = nat_le (length t) 4000

abbrev pub initial : VarDef → List TokenFault
initial v = when (not (begins v.initial.value)) (wrong v.initial.token)

-- parameters and variables share one namespace, in which these names are taken
abbrev pub name_doubles : List Text → ProcDef → List TokenFault
name_doubles taken p =
    doubles (λ (q : Param). q.name) taken p.params ++ doubles (λ (v : VarDef). v.name) (taken ++ map (λ (q : Param). q.name.text) p.params) p.vars

-- `found` is taken from the start
abbrev pub declarations : ProcDef → List TokenFault
declarations p =
    name_doubles (found.name ∷ []) p ++ flat_map (λ (q : Param). param_columns q.kind) p.params ++ flat_map initial p.vars

abbrev pub procedure : List TableDef → ProcDef → List TokenFault
procedure tables p = declarations p ++ statements tables p.body (scope_of p) ++ writes p

-- Copies and calls

abbrev pub copy : List TableDef → CopyDef → List TokenFault
copy tables c = missing_table c.table.token (table_named tables c.table.text)

abbrev pub argument : ParamKind → Arg → List TokenFault
argument (param.One kind) (arg.One l) = literal kind l
argument (param.One kind) (arg.Many rs) = wrong rs.token ∷ []
argument (param.Many columns) (arg.One l) = wrong l.token ∷ []
argument (param.Many columns) (arg.Many rs) = rows columns rs.rows

-- an argument for each parameter
abbrev pub arguments : List Param → List Arg → List TokenFault
arguments qs [] = []
arguments [] (a ∷ as') = []
arguments (q ∷ qs) (a ∷ as') = argument q.kind a ++ arguments qs as'

abbrev pub arg_token : Arg → ℕ
arg_token (arg.One l) = l.token
arg_token (arg.Many rs) = rs.token

-- the first token of the arguments, or that of the procedure's name if there are none
abbrev pub arguments_token : List Arg → Name → ℕ
arguments_token [] n = n.token
arguments_token (a ∷ as') n = arg_token a

-- the call has an argument for each parameter, and each argument fits
abbrev pub call_to : Option ProcDef → CallDef → List TokenFault
call_to None c = unknown c.name.token ∷ []
call_to (Some p) c =
    if length c.arguments == length p.params then arguments p.params c.arguments else wrong (arguments_token c.arguments c.name) ∷ []

abbrev pub procedure_named : List ProcDef → Name → Option ProcDef
procedure_named procedures n = first_named (λ (p : ProcDef). p.name.text) procedures n.text

abbrev pub call : List ProcDef → CallDef → List TokenFault
call procedures c = call_to (procedure_named procedures c.name) c

-- The whole script. A table and a procedure may share a name. Items may be used before they are declared.

abbrev pub table_doubles : List TableDef → List TokenFault
table_doubles tables = doubles (λ (t : TableDef). t.name) [] tables

abbrev pub procedure_doubles : List ProcDef → List TokenFault
procedure_doubles procedures = doubles (λ (q : ProcDef). q.name) [] procedures

abbrev pub parts_faults : Parts → List TokenFault
parts_faults p =
    table_doubles p.tables ++ procedure_doubles p.procedures ++ flat_map (table p.tables) p.tables ++ flat_map (procedure p.tables) p.procedures
    ++ flat_map (copy p.tables) p.copies ++ flat_map (call p.procedures) p.calls

-- all faults of names and types
abbrev pub faults : Script → List TokenFault
faults script = lates 0 script.items ++ parts_faults (parts_of script.items)
