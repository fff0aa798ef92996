-- The types of expressions in a program. The rules are this project's own.
use Rattle.std.specs.Prelude.{◌≡◌, ℕ, List, Option, Some, None, slice_get}
use Rattle.mv_values.specs.declared.schema.ColType.{ColType}
use Rattle.mv_values.specs.declared.schema.ColType.TheVariants as column
use Rattle.mv_values.specs.declared.value.Value.{Value}
use Rattle.mv_values.specs.declared.value.Value.TheVariants as value
use Rattle.mv_ast.specs.declared.tree.OneOp.{OneOp}
use Rattle.mv_ast.specs.declared.tree.OneOp.TheVariants.{Neg, Not, TextOf}
use Rattle.mv_ast.specs.declared.tree.TwoOp.{TwoOp}
use Rattle.mv_ast.specs.declared.tree.TwoOp.TheVariants.{Add, Sub, Mul, Div, Rem, Join, Compare, And, Or, Left, Contains}
use Rattle.mv_catalog.specs.declared.resolved.RExpr.{RExpr, RExpr-F, rec-RExpr}
use Rattle.mv_catalog.specs.declared.resolved.RExprKind.{RExprKind}
use Rattle.mv_catalog.specs.declared.resolved.RExprKind.TheOpen.{RExprKind-F}
use Rattle.mv_catalog.specs.declared.resolved.RExprKind.TheOpen as kind

-- the types of values
pub data Kind : Type 0 where
  int : Kind
  text : Kind

abbrev pub kind_of_value : Value → Kind
kind_of_value (value.Int z) = int
kind_of_value (value.Text t) = text

abbrev pub kind_of_column : ColType → Kind
kind_of_column column.Int = int
kind_of_column (column.Text n) = text

-- what a variable of a procedure is: a read-only value, a declared variable, the rows of a ROWS parameter, or the row
-- of a loop; rows are given by the types of their columns
pub data Var : Type 0 where
  fixed : Kind → Var
  declared : Kind → Var
  rows : List Kind → Var
  turn : List Kind → Var

-- the variables in scope, by their numbers
abbrev pub Vars : Type 0
Vars = ℕ → Option Var

-- the type of a variable read as a value
abbrev pub read : Option Var → Option Kind
read (Some (fixed t)) = Some t
read (Some (declared t)) = Some t
read (Some (rows ts)) = None
read (Some (turn ts)) = None
read None = None

-- the type of a column of a loop's row
abbrev pub field : Option Var → ℕ → Option Kind
field (Some (turn ts)) c = slice_get ts c
field (Some (rows ts)) c = None
field (Some (fixed t)) c = None
field (Some (declared t)) c = None
field None c = None

-- the result type of an operator for operands of these types
abbrev pub one_gives : OneOp → Kind → Option Kind
one_gives Neg int = Some int
one_gives Not int = Some int
one_gives TextOf int = Some text
one_gives op text = None

abbrev pub two_gives : TwoOp → Kind → Kind → Option Kind
two_gives Add int int = Some int
two_gives Sub int int = Some int
two_gives Mul int int = Some int
two_gives Div int int = Some int
two_gives Rem int int = Some int
two_gives Join text text = Some text
two_gives (Compare op) int int = Some int
two_gives (Compare op) text text = Some int
two_gives And int int = Some int
two_gives Or int int = Some int
two_gives Left text int = Some text
two_gives Contains text text = Some int
two_gives op l r = None

-- the types that an expression has
abbrev pub Has : Type 1
Has = Kind → Type 0

-- the rules, given the types of the inner expressions
abbrev pub kind_step : Vars → List Kind → (X Y : Type 0) → (X → RExprKind) → (Y → RExpr) → (X → Has) → (Y → Has) → RExprKind-F X Y → Has
kind_step vars columns X Y v w k has (kind.Const c) t = kind_of_value c ≡ t
kind_step vars columns X Y v w k has (kind.Var x) t = read (vars x) ≡ Some t
kind_step vars columns X Y v w k has (kind.Field x c) t = field (vars x) c ≡ Some t
kind_step vars columns X Y v w k has (kind.Col c) t = slice_get columns c ≡ Some t
kind_step vars columns X Y v w k has (kind.One op a) t = (s : Kind) × has a s × (one_gives op s ≡ Some t)
kind_step vars columns X Y v w k has (kind.Two op a b) t = (l : Kind) × (r : Kind) × has a l × has b r × (two_gives op l r ≡ Some t)

abbrev pub expr_step : (X Y : Type 0) → (X → RExprKind) → (Y → RExpr) → (X → Has) → (Y → Has) → RExpr-F X Y → Has
expr_step X Y v w k has e t = k e.kind t

-- the expression has the type, given the variables in scope and the types of the columns that may occur bare
abbrev pub HasType : Vars → List Kind → RExpr → Kind → Type 0
HasType vars columns = rec-RExpr Has Has (kind_step vars columns) expr_step
