-- The names of a place, as the check and as the program know them.
use Rattle.std.proofs.Common.{◌≡◌, ℕ, ◌≤◌, ◌<◌, suc, Bool, true, false, List, [], ◌∷◌, Option, Some, None, refl, subst, map, length, slice_get, arith, if◌then◌else◌}
use Rattle.std.proofs.lemmas.Option.{slice_get_within}
use Rattle.mv_values.specs.declared.schema.ColType.{ColType}
use Rattle.mv_values.specs.declared.schema.ColType.TheVariants as column
use Rattle.mv_ast.specs.declared.tree.Name.{Name}
use Rattle.mv_ast.specs.declared.tree.ColDef.{ColDef}
use Rattle.mv_names.specs.declared.scope.ValueType.{ValueType}
use Rattle.mv_names.specs.declared.scope.ValueType.TheVariants as type'
use Rattle.mv_names.specs.declared.scope.Field.{Field}
use Rattle.mv_names.specs.declared.scope.Binding.{Binding}
use Rattle.mv_names.specs.declared.scope.Binding.TheVariants.{Fixed, Variable, Rows, Turn}
use Rattle.mv_names.specs.declared.scope.Entry.{Entry}
use Rattle.mv_names.specs.Named.{Text, same_text, first_named, place_named}
use Rattle.mv_names.specs.Scope.{entry_of, type_in, type_among, type_of_column}
use Rattle.mv_names.specs.Typing.{missing_column}
use Rattle.mv_resolve.specs.declared.slot.NamedSlot.{NamedSlot}
use Rattle.mv_resolve.specs.Building.{slot_named, column_name, column_number}
use Rattle.mv_catalog.specs.Types.{Kind, int, text, Var, fixed, declared, rows, turn, Vars, kind_of_column}
use Rattle.mv_resolve.proofs.Lists.{place_found, get_map, small_is}

-- a type, as the check has it
abbrev pub known : Kind → ValueType
known int = type'.Int
known text = type'.Text

-- columns of rows with these types and names
abbrev pub SameFields : List Field → List Kind → List Text → Type 0
SameFields [] [] [] = Unit {0}
SameFields (f ∷ fs) (k ∷ ks) (t ∷ ts) = (f.kind ≡ known k) × (f.name ≡ t) × SameFields fs ks ts
SameFields fs ks ts = ⊥

-- what an entry of the check's scope means in the program
abbrev pub Means : Binding → Var → List Text → Type 0
Means (Fixed t) (fixed k) names = t ≡ known k
Means (Variable t) (declared k) names = t ≡ known k
Means (Rows fields) (rows ks) names = SameFields fields ks names × (length ks ≤ 32)
Means (Turn fields) (turn ks) names = SameFields fields ks names × (length ks ≤ 32)
Means m v names = ⊥

abbrev pub Same : Vars → Option Entry → Option NamedSlot → Type 0
Same vars None None = Unit {0}
Same vars (Some e) (Some s) = (v : Var) × (vars s.number ≡ Some v) × Means e.binding v s.fields
Same vars e s = ⊥

-- each name stands for the same
abbrev pub Matches : List Entry → List NamedSlot → Vars → Type 0
Matches scope slots vars = (x : Text) → Same vars (entry_of scope x) (slot_named slots x)

abbrev pub kinds_in : List ColDef → List Kind
kinds_in columns = map (λ (c : ColDef). kind_of_column c.kind) columns

pub type_known : (c : ColType) → type_in c ≡ known (kind_of_column c)
type_known column.Int = refl
type_known (column.Text n) = refl

-- a column of the name has a type
abbrev pub Typed : ValueType → List Kind → ℕ → Type 0
Typed type kinds c = (t : Kind) × (type ≡ known t) × (slice_get kinds c ≡ Some t)

column_at : (columns : List ColDef) (n : Name) (c : ColDef) → length columns ≤ 32 → first_named column_name columns n.text ≡ Some c
    → slice_get (kinds_in columns) (column_number columns n) ≡ Some (kind_of_column c.kind)
column_at columns n c few is =
    let at : slice_get columns (place_named column_name columns n.text) ≡ Some c = place_found column_name columns n.text c is in
    let lt : place_named column_name columns n.text < length columns = slice_get_within columns _ c at in
    rw (small_is (place_named column_name columns n.text) (omega arith))
    (get_map (λ (d : ColDef). kind_of_column d.kind) columns (place_named column_name columns n.text) c at)

column_by : (columns : List ColDef) (n : Name) (o : Option ColDef) → length columns ≤ 32 → first_named column_name columns n.text ≡ o → missing_column n.token o ≡ []
    → Typed (type_of_column o) (kinds_in columns) (column_number columns n)
column_by columns n None few is h = cc
column_by columns n (Some c) few is h = (kind_of_column c.kind, type_known c.kind, column_at columns n c few is)

pub column_typed : (columns : List ColDef) (n : Name) → length columns ≤ 32 → missing_column n.token (first_named column_name columns n.text) ≡ []
    → Typed (type_among (Some columns) n.text) (kinds_in columns) (column_number columns n)
column_typed columns n few h = column_by columns n (first_named column_name columns n.text) few refl h

field_step : (f g : Field) (k : Kind) (ks : List Kind) (b : Bool) (first : Option Field) (p : ℕ) → f.kind ≡ known k → (if b then Some f else first) ≡ Some g
    → (first ≡ Some g → Typed g.kind ks p) → Typed g.kind (k ∷ ks) (if b then 0 else suc p)
field_step f g k ks true first p is h ih = let same : f ≡ g = cc in (k, subst (λ x. x.kind ≡ known k) same is, refl)
field_step f g k ks false first p is h ih = ih h

pub field_typed : (fields : List Field) (ks : List Kind) (names : List Text) (n : Text) (g : Field) → SameFields fields ks names
    → first_named (λ (f : Field). f.name) fields n ≡ Some g → Typed g.kind ks (place_named (λ t. t) names n)
field_typed [] ks names n g same h = cc
field_typed (f ∷ fs) [] names n g same h = absurd same
field_typed (f ∷ fs) (k ∷ ks) [] n g same h = absurd same
field_typed (f ∷ fs) (k ∷ ks) (t ∷ ts) n g same h =
    subst (λ x. Typed g.kind (k ∷ ks) (if same_text x n then 0 else suc (place_named (λ t. t) ts n))) same.1
    (field_step f g k ks (same_text f.name n) (first_named (λ (f : Field). f.name) fs n) (place_named (λ t. t) ts n) same.0 h (field_typed fs ks ts n g same.2))
