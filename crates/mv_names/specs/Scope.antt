-- The names in scope in a procedure: `:found`, its parameters, its variables, and the enclosing loops. They share one
-- namespace.
use Rattle.std.specs.Prelude.{List, [], ◌∷◌, ◌++◌, map, codes, Option, Some, None}
use Rattle.mv_values.specs.declared.schema.ColType.{ColType}
use Rattle.mv_values.specs.declared.schema.ColType.TheVariants as column
use Rattle.mv_values.specs.declared.value.Value.{Value}
use Rattle.mv_values.specs.declared.value.Value.TheVariants as value
use Rattle.mv_ast.specs.declared.tree.Name.{Name}
use Rattle.mv_ast.specs.declared.tree.ColDef.{ColDef}
use Rattle.mv_ast.specs.declared.tree.TableDef.{TableDef}
use Rattle.mv_ast.specs.declared.tree.Param.{Param}
use Rattle.mv_ast.specs.declared.tree.ParamKind.{ParamKind}
use Rattle.mv_ast.specs.declared.tree.ParamKind.TheVariants as param
use Rattle.mv_ast.specs.declared.tree.VarDef.{VarDef}
use Rattle.mv_ast.specs.declared.tree.ProcDef.{ProcDef}
use Rattle.mv_names.specs.declared.scope.ValueType.{ValueType}
use Rattle.mv_names.specs.declared.scope.ValueType.TheVariants.{Int, Text, Unknown}
use Rattle.mv_names.specs.declared.scope.Field.{Field}
use Rattle.mv_names.specs.declared.scope.Binding.{Binding}
use Rattle.mv_names.specs.declared.scope.Binding.TheVariants.{Fixed, Variable, Rows, Turn}
use Rattle.mv_names.specs.declared.scope.Entry.{Entry}
use Rattle.mv_names.specs.Named as named
use Rattle.mv_names.specs.Named.{first_named}

-- the type of a column's values
abbrev pub type_in : ColType → ValueType
type_in column.Int = Int
type_in (column.Text n) = Text

abbrev pub type_of_value : Value → ValueType
type_of_value (value.Int z) = Int
type_of_value (value.Text t) = Text

-- the type of the column found, or unknown
abbrev pub type_of_column : Option ColDef → ValueType
type_of_column None = Unknown
type_of_column (Some c) = type_in c.kind

abbrev pub column_type : List ColDef → named.Text → ValueType
column_type columns n = type_of_column (first_named (λ (c : ColDef). c.name.text) columns n)

-- the columns of a table, if it exists
abbrev pub columns_of : Option TableDef → Option (List ColDef)
columns_of None = None
columns_of (Some t) = Some t.columns

-- the type of a column; unknown if the table or the column doesn't exist
abbrev pub type_among : Option (List ColDef) → named.Text → ValueType
type_among None n = Unknown
type_among (Some columns) n = column_type columns n

-- `:found`
abbrev pub found : Entry
found = record { name = codes "found"; binding = Fixed Int }

abbrev pub declared_field : ColDef → Field
declared_field c = record { name = c.name.text; kind = type_in c.kind }

abbrev pub binding_of : ParamKind → Binding
binding_of (param.One kind) = Fixed (type_in kind)
binding_of (param.Many columns) = Rows (map declared_field columns)

abbrev pub parameter : Param → Entry
parameter p = record { name = p.name.text; binding = binding_of p.kind }

-- a variable has the type of its initial literal
abbrev pub variable : VarDef → Entry
variable v = record { name = v.name.text; binding = Variable (type_of_value v.initial.value) }

-- the types of columns
abbrev pub types_of : Option (List ColDef) → List Name → List ValueType
types_of columns names = map (λ (n : Name). type_among columns n.text) names

-- the names in scope in a procedure outside its loops
abbrev pub scope_of : ProcDef → List Entry
scope_of p = found ∷ map parameter p.params ++ map variable p.vars

-- the row of a loop, with these fields
abbrev pub turn_with : Name → List Field → Entry
turn_with row fields = record { name = row.text; binding = Turn fields }

-- a selected column as a field of the loop's row
abbrev pub selected_field : Option (List ColDef) → Name → Field
selected_field columns n = record { name = n.text; kind = type_among columns n.text }

-- the row of a loop over a SELECT
abbrev pub select_turn : Name → Option (List ColDef) → List Name → Entry
select_turn row columns names = turn_with row (map (selected_field columns) names)

-- the columns of a ROWS parameter; empty for anything else
abbrev pub rows_in : Binding → List Field
rows_in (Rows fields) = fields
rows_in m = []

abbrev pub fields_of : Option Entry → List Field
fields_of None = []
fields_of (Some e) = rows_in e.binding

-- the entry of a name
abbrev pub entry_of : List Entry → named.Text → Option Entry
entry_of scope n = first_named (λ (e : Entry). e.name) scope n

-- the row of a loop over a ROWS parameter has the parameter's columns
abbrev pub rows_turn : Name → List Entry → Name → Entry
rows_turn row scope rows = turn_with row (fields_of (entry_of scope rows.text))
