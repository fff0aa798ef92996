-- The types of expressions, and their faults.
use Rattle.std.specs.Prelude.{ℕ, Bool, true, false, List, [], ◌∷◌, ◌++◌, Option, Some, None}
use Rattle.mv_ast.specs.declared.tree.Name.{Name}
use Rattle.mv_ast.specs.declared.tree.ColDef.{ColDef}
use Rattle.mv_ast.specs.declared.tree.OneOp.{OneOp}
use Rattle.mv_ast.specs.declared.tree.OneOp.TheVariants.{Neg, Not, TextOf}
use Rattle.mv_ast.specs.declared.tree.TwoOp.{TwoOp}
use Rattle.mv_ast.specs.declared.tree.TwoOp.TheVariants.{Add, Sub, Mul, Div, Rem, Join, Compare, And, Or, Left, Contains}
use Rattle.mv_ast.specs.declared.tree.Expr.{Expr, Expr-F, fold-Expr}
use Rattle.mv_ast.specs.declared.tree.ExprKind.TheOpen.{ExprKind-F}
use Rattle.mv_ast.specs.declared.tree.ExprKind.TheOpen as kind
use Rattle.mv_names.specs.declared.fault.TokenFault.{TokenFault}
use Rattle.mv_names.specs.declared.scope.ValueType.{ValueType}
use Rattle.mv_names.specs.declared.scope.ValueType.TheVariants.{Int, Text, Unknown}
use Rattle.mv_names.specs.declared.scope.Field.{Field}
use Rattle.mv_names.specs.declared.scope.Binding.{Binding}
use Rattle.mv_names.specs.declared.scope.Binding.TheVariants.{Fixed, Variable, Rows, Turn}
use Rattle.mv_names.specs.declared.scope.Entry.{Entry}
use Rattle.mv_names.specs.First.{unknown, wrong, when}
use Rattle.mv_names.specs.Named.{first_named}
use Rattle.mv_names.specs.Scope.{entry_of, type_of_value, type_among}

-- the two types exclude each other
abbrev pub clash : ValueType → ValueType → Bool
clash Int Text = true
clash Text Int = true
clash t u = false

-- an expression: its first token, its type and its faults
pub record Judged : Type 0 where
  pub token : ℕ
  pub type : ValueType
  pub faults : List TokenFault

-- an expression in a place of this type
abbrev pub misfit : ValueType → ℕ → ValueType → List TokenFault
misfit place token type = when (clash place type) (wrong token)

abbrev pub in_place : ValueType → Judged → List TokenFault
in_place place part = part.faults ++ misfit place part.token part.type

-- a name read as a value is a parameter, a variable or `:found`. An undeclared name is a fault at the name. A ROWS
-- parameter or a loop is a fault at the first token of the expression, which may be a `(`.
abbrev pub type_of_binding : Binding → ValueType
type_of_binding (Fixed t) = t
type_of_binding (Variable t) = t
type_of_binding (Rows fields) = Unknown
type_of_binding (Turn fields) = Unknown

abbrev pub reading_faults : ℕ → Binding → List TokenFault
reading_faults token (Fixed t) = []
reading_faults token (Variable t) = []
reading_faults token (Rows fields) = wrong token ∷ []
reading_faults token (Turn fields) = wrong token ∷ []

abbrev pub read_type : Option Entry → ValueType
read_type None = Unknown
read_type (Some e) = type_of_binding e.binding

abbrev pub read_faults : Name → ℕ → Option Entry → List TokenFault
read_faults n token None = unknown n.token ∷ []
read_faults n token (Some e) = reading_faults token e.binding

abbrev pub judged_variable : List Entry → Name → ℕ → Judged
judged_variable scope n token = record {
  token = token;
  type = read_type (entry_of scope n.text);
  faults = read_faults n token (entry_of scope n.text);
}

-- a column of a loop's row
abbrev pub field_type : Option Field → ValueType
field_type None = Unknown
field_type (Some f) = f.kind

abbrev pub missing_field : ℕ → Option Field → List TokenFault
missing_field token None = unknown token ∷ []
missing_field token (Some f) = []

abbrev pub field_named : List Field → Name → Option Field
field_named fields n = first_named (λ (f : Field). f.name) fields n.text

abbrev pub turn_type : Binding → Name → ValueType
turn_type (Turn fields) n = field_type (field_named fields n)
turn_type m n = Unknown

abbrev pub turn_faults : ℕ → Binding → Name → List TokenFault
turn_faults token (Turn fields) n = missing_field n.token (field_named fields n)
turn_faults token m n = wrong token ∷ []

abbrev pub of_turn_type : Option Entry → Name → ValueType
of_turn_type None n = Unknown
of_turn_type (Some e) n = turn_type e.binding n

abbrev pub of_turn_faults : Name → ℕ → Option Entry → Name → List TokenFault
of_turn_faults r token None n = unknown r.token ∷ []
of_turn_faults r token (Some e) n = turn_faults token e.binding n

abbrev pub judged_field : List Entry → Name → Name → ℕ → Judged
judged_field scope r n token = record {
  token = token;
  type = of_turn_type (entry_of scope r.text) n;
  faults = of_turn_faults r token (entry_of scope r.text) n;
}

-- an unknown column is a fault, unless its table is unknown too
abbrev pub missing_column : ℕ → Option ColDef → List TokenFault
missing_column token None = unknown token ∷ []
missing_column token (Some c) = []

abbrev pub column_faults : Option (List ColDef) → Name → List TokenFault
column_faults None n = []
column_faults (Some columns) n = missing_column n.token (first_named (λ (c : ColDef). c.name.text) columns n.text)

abbrev pub judged_column : Option (List ColDef) → Name → ℕ → Judged
judged_column columns n token = record { token = token; type = type_among columns n.text; faults = column_faults columns n }

-- the type that an operator takes, and the type that it returns
abbrev pub one_wants : OneOp → ValueType
one_wants op = Int

abbrev pub one_gives : OneOp → ValueType
one_gives Neg = Int
one_gives Not = Int
one_gives TextOf = Text

-- the type of the left side; a comparison takes any
abbrev pub left_wants : TwoOp → ValueType
left_wants Add = Int
left_wants Sub = Int
left_wants Mul = Int
left_wants Div = Int
left_wants Rem = Int
left_wants Join = Text
left_wants (Compare op) = Unknown
left_wants And = Int
left_wants Or = Int
left_wants Left = Text
left_wants Contains = Text

-- the type of the right side; in a comparison it is that of the left side
abbrev pub right_wants : TwoOp → ValueType → ValueType
right_wants Add t = Int
right_wants Sub t = Int
right_wants Mul t = Int
right_wants Div t = Int
right_wants Rem t = Int
right_wants Join t = Text
right_wants (Compare op) t = t
right_wants And t = Int
right_wants Or t = Int
right_wants Left t = Int
right_wants Contains t = Text

abbrev pub two_gives : TwoOp → ValueType
two_gives Add = Int
two_gives Sub = Int
two_gives Mul = Int
two_gives Div = Int
two_gives Rem = Int
two_gives Join = Text
two_gives (Compare op) = Int
two_gives And = Int
two_gives Or = Int
two_gives Left = Text
two_gives Contains = Int

-- an expression, given the names in scope and the columns that may occur bare
abbrev pub Judges : Type 0
Judges = List Entry → Option (List ColDef) → Judged

abbrev pub judged_one : OneOp → Judged → ℕ → Judged
judged_one op a token = record { token = token; type = one_gives op; faults = in_place (one_wants op) a }

abbrev pub judged_two : TwoOp → Judged → Judged → ℕ → Judged
judged_two op a b token = record {
  token = token;
  type = two_gives op;
  faults = in_place (left_wants op) a ++ in_place (right_wants op a.type) b;
}

abbrev pub kind_step : ExprKind-F (ℕ → Judges) Judges → ℕ → Judges
kind_step (kind.Const v) token scope columns = record { token = token; type = type_of_value v; faults = [] }
kind_step (kind.Var n) token scope columns = judged_variable scope n token
kind_step (kind.Field r n) token scope columns = judged_field scope r n token
kind_step (kind.Col n) token scope columns = judged_column columns n token
kind_step (kind.One op a) token scope columns = judged_one op (a scope columns) token
kind_step (kind.Two op a b) token scope columns = judged_two op (a scope columns) (b scope columns) token

abbrev pub expr_step : Expr-F (ℕ → Judges) Judges → Judges
expr_step e scope columns = e.kind e.token scope columns

-- the judgement of an expression
abbrev pub judged : Expr → Judges
judged = fold-Expr (ℕ → Judges) Judges kind_step expr_step

abbrev pub type_of : List Entry → Option (List ColDef) → Expr → ValueType
type_of scope columns e = (judged e scope columns).type

abbrev pub faults_of : List Entry → Option (List ColDef) → Expr → List TokenFault
faults_of scope columns e = (judged e scope columns).faults

-- an expression in a place of this type, without bare columns
abbrev pub placed : ValueType → List Entry → Expr → List TokenFault
placed place scope e = in_place place (judged e scope (Some []))
