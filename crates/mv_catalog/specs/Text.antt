-- Well-formed programs: all numbers refer to existing things, types agree, and limits hold. This project's own.
use Rattle.std.specs.Prelude.{◌≡◌, ◌≢◌, ◌<◌, ◌≤◌, ⊤, ℕ, true, false, List, [], ◌∷◌, ◌++◌, length, map, Option, Some, None, slice_get, All, AllPairs}
use Rattle.std.specs.List.{AllZip}
use Rattle.mv_values.specs.declared.schema.ColType.{ColType}
use Rattle.mv_values.specs.declared.schema.ColType.TheVariants as column
use Rattle.mv_values.specs.declared.schema.Column.{Column}
use Rattle.mv_values.specs.declared.schema.TableInfo.{TableInfo}
use Rattle.mv_values.specs.declared.value.Value.{Value}
use Rattle.mv_values.specs.declared.value.Value.TheVariants as value
use Rattle.mv_values.specs.declared.calls.Argument.{Argument}
use Rattle.mv_values.specs.declared.calls.Argument.TheVariants as argument
use Rattle.mv_values.specs.declared.calls.Call.{Call}
use Rattle.mv_catalog.specs.declared.resolved.ParamInfo.{ParamInfo}
use Rattle.mv_catalog.specs.declared.resolved.ParamInfo.TheVariants as param
use Rattle.mv_catalog.specs.declared.resolved.ProcInfo.{ProcInfo}
use Rattle.mv_catalog.specs.declared.resolved.CopyInfo.{CopyInfo}
use Rattle.mv_catalog.specs.declared.resolved.Resolved.{Resolved}
use Rattle.mv_catalog.specs.Types.{int, Var, fixed, declared, rows, Vars, kind_of_column, kind_of_value}
use Rattle.mv_catalog.specs.Statements.{all_well, IsWell, rows_of, CountsFrom, any_change, size_of}

-- Values and rows

-- the value has the type, and a text is no longer than the type allows. All numbers of a program have 64 bits and all
-- its texts are printable, so neither is required here.
abbrev pub IsOf : ColType → Value → Type 0
IsOf column.Int (value.Int z) = ⊤
IsOf column.Int (value.Text t) = ⊥
IsOf (column.Text n) (value.Int z) = ⊥
IsOf (column.Text n) (value.Text t) = length t ≤ n

-- a value for each column
abbrev pub IsRow : List ColType → List Value → Type 0
IsRow types row = AllZip IsOf types row

-- Tables

abbrev pub types_of : TableInfo → List ColType
types_of t = map (λ (c : Column). c.kind) t.columns

-- a table has 1 to 32 columns, and at least one key column; no key column is listed twice
pub record IsTable (t : TableInfo) : Type 0 where
  pub wide : 0 < length t.columns
  pub narrow : length t.columns ≤ 32
  pub some : 0 < length t.key
  pub within : All (λ c. c < length t.columns) t.key
  pub once : AllPairs (λ c d. c ≢ d) t.key

-- the key is one column of this type, INT or TEXT of any length
abbrev pub IsKeyOf : ColType → TableInfo → Type 0
IsKeyOf type t = (k : ℕ) × (c : Column) × (t.key ≡ k ∷ []) × (slice_get t.columns k ≡ Some c) × (kind_of_column c.kind ≡ kind_of_column type)

abbrev pub Refers : List TableInfo → ColType → Option ℕ → Type 0
Refers tables type None = ⊤
Refers tables type (Some parent) = (t : TableInfo) × (slice_get tables parent ≡ Some t) × IsKeyOf type t

-- the parent of a column with REFERENCES is a table whose key is one column of the column's type
abbrev pub HasParent : List TableInfo → Column → Type 0
HasParent tables column = Refers tables column.kind column.refers

abbrev pub HaveParents : List TableInfo → Type 0
HaveParents tables = All (λ (t : TableInfo). All (HasParent tables) t.columns) tables

abbrev pub RowsFit : TableInfo → List (List Value) → Type 0
RowsFit t all = All (IsRow (types_of t)) all

-- Procedures

abbrev pub param_var : ParamInfo → Var
param_var (param.One type) = fixed (kind_of_column type)
param_var (param.Many types) = rows (map kind_of_column types)

-- the variables outside loops: parameters, declared variables and `:found`
abbrev pub own_vars : ProcInfo → List Var
own_vars p = map param_var p.params ++ map (λ v. declared (kind_of_value v)) p.defaults ++ fixed int ∷ []

abbrev pub vars_of : ProcInfo → Vars
vars_of p = slice_get (own_vars p)

-- the initial text of a variable has at most 4,000 bytes
abbrev pub IsShort : Value → Type 0
IsShort (value.Int z) = ⊤
IsShort (value.Text t) = length t ≤ 4000

-- a procedure has at most 16 parameters, 64 declared variables and 1,000 statements, nested ones included. Its defaults
-- are short, its statements are well formed, and its loop rows are numbered in the order of the text after `:found`. If it
-- is READ ONLY, no statement changes a table.
pub record IsProcedure (tables : List TableInfo) (p : ProcInfo) : Type 0 where
  pub few : length p.params ≤ 16
  pub declared : length p.defaults ≤ 64
  pub defaults : All IsShort p.defaults
  pub short : size_of p.body ≤ 1000
  pub body : all_well (IsWell tables) p.body (vars_of p)
  pub loops : CountsFrom (length (own_vars p)) (rows_of p.body)
  pub reads : p.read_only ≡ true → any_change p.body ≡ false

-- Calls

abbrev pub Suits : ParamInfo → Argument → Type 0
Suits (param.One type) (argument.One v) = IsOf type v
Suits (param.One type) (argument.Many all) = ⊥
Suits (param.Many types) (argument.One v) = ⊥
Suits (param.Many types) (argument.Many all) = All (IsRow types) all

-- a call of an existing procedure, with an argument for each parameter
abbrev pub IsCall : List ProcInfo → Call → Type 0
IsCall procedures c = (p : ProcInfo) × (slice_get procedures c.procedure ≡ Some p) × AllZip Suits p.params c.arguments

-- The whole

-- the resolved script is well formed; it has at most 64 tables
pub record FitsText (r : Resolved) : Type 0 where
  pub few : length r.tables ≤ 64
  pub tables : All IsTable r.tables
  pub parents : HaveParents r.tables
  pub rows : AllZip RowsFit r.tables r.rows
  pub procedures : All (IsProcedure r.tables) r.procedures
  pub copies : All (λ (c : CopyInfo). c.table < length r.tables) r.copies
  pub calls : All (IsCall r.procedures) r.calls
