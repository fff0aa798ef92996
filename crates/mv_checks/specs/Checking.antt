-- What the code checks: the checks that its values are, and the predicates that it may ask for them.
use Rattle.std.specs.Prelude.{◌≡◌, ⊤, ℕ, ◌==◌, not, List, [], ◌∷◌, Result, Ok, map, if◌then◌else◌}
use Rattle.std.specs.List.{filter}
use Rattle.mv_values.specs.declared.value.Value.{Value}
use Rattle.mv_values.specs.declared.rows.Keyed.{Keyed}
use Rattle.mv_values.specs.declared.schema.TableInfo.{TableInfo}
use Rattle.mv_values.specs.declared.calls.End.{End}
use Rattle.mv_values.specs.declared.calls.End.TheVariants.{Duplicate, MissingParent, HasChildren}
use Rattle.mv_values.specs.Columns.{column_of}
use Rattle.mv_values.specs.References.{Reference, references}
use Rattle.mv_values.specs.Tables.{key_columns}
use Rattle.mv_eval.specs.References.{is_own_parent}
use Rattle.mv_recorded.specs.Asking.{Check, faults, needs, forbids, pred_of, same_key, parent_pred, child_pred, KnowsKey}
use Rattle.mv_checks.specs.declared.children.Child.{Child}
use Rattle.mv_checks.specs.declared.check.Check as code
use Rattle.mv_checks.specs.declared.check.Check.TheVariants as code'

-- the check that a value of the code is, of a statement that found rows with these keys
abbrev pub meant : List (List Value) → code.Check → Check
meant found (code'.Faults e) = faults e
meant found (code'.Needs p e) = needs p e
meant found (code'.Forbids p is_own e) = forbids p (if is_own then found else []) e

-- its predicate may be asked: its table exists, and its tests have their positions in the key
abbrev pub MayAsk : List TableInfo → Check → Type 0
MayAsk tables (faults e) = ⊤
MayAsk tables (needs p e) = KnowsKey tables p
MayAsk tables (forbids p but e) = KnowsKey tables p

-- what INSERT of a row under its key checks of parents: of these columns, those whose parent isn't the row itself
abbrev pub parent_checks : List TableInfo → Keyed → List Reference → List Check
parent_checks tables item refs = map (λ r. needs (parent_pred tables r.parent (column_of item.row r.column)) MissingParent) (filter (λ r. not (is_own_parent item r)) refs)

-- all that it checks
abbrev pub row_checks : List TableInfo → ℕ → Keyed → List Check
row_checks tables t item = forbids (pred_of t (same_key (key_columns tables t) item.row) []) [] Duplicate ∷ parent_checks tables item (references tables t)

-- a column with REFERENCES to a table, by its own table and its number
abbrev pub reference_to : ℕ → Child → Reference
reference_to t child = record { table = child.table; column = child.column; parent = t }

-- what DELETE of rows with these keys from a table checks of a column with REFERENCES to it
abbrev pub child_checks : List TableInfo → ℕ → List (List Value) → Reference → List Check
child_checks tables t found r = map (λ key. forbids (child_pred tables r.table r.column key) (if r.table == t then found else []) HasChildren) found

-- there is a value, and no fault
abbrev pub HasValue : {A : Type 0} → Result A End → Type 0
HasValue {A} r = (x : A) × (r ≡ Ok x)
