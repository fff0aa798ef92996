-- Tables and columns by their numbers.
use Rattle.std.proofs.Common.{◌≡◌, ◌≢◌, ℕ, zero, suc, ◌≤◌, ◌<◌, Bool, true, false, List, [], ◌∷◌, ◌++◌, Option, Some, None, refl, sym, subst, ◌∙◌, map, length, slice_get, arith, All, Contains, ◌⊎◌, inl, inr, ⊎_elim, if◌then◌else◌}
use Rattle.std.specs.List.{flat_map, AllPairs}
use Rattle.std.specs.Cmp.Lexicographic.{same_text as told_same, other_text}
use Rattle.std.proofs.lemmas.Option.{get_or_from_slice_get, slice_get_within}
use Rattle.std.proofs.lemmas.Bool.{or_parts}
use Rattle.mv_values.specs.declared.schema.TableInfo.{TableInfo}
use Rattle.mv_ast.specs.declared.tree.Name.{Name}
use Rattle.mv_ast.specs.declared.tree.ColDef.{ColDef}
use Rattle.mv_ast.specs.declared.tree.TableDef.{TableDef}
use Rattle.mv_ast.specs.declared.tree.SetItem.{SetItem}
use Rattle.mv_names.specs.declared.scope.Entry.{Entry}
use Rattle.mv_names.specs.First.{when, key_set}
use Rattle.mv_names.specs.Named.{Text, same_text, first_named, place_named, is_named}
use Rattle.mv_names.specs.Scope.{type_among}
use Rattle.mv_names.specs.Typing.{clash, misfit, in_place, judged, column_faults, missing_column}
use Rattle.mv_names.specs.Statements as names
use Rattle.mv_names.specs.Statements.{table_named}
use Rattle.mv_resolve.specs.declared.slot.NamedSlot.{NamedSlot}
use Rattle.mv_catalog.specs.declared.resolved.RSetItem.{RSetItem}
use Rattle.mv_resolve.specs.Building.{small, tiny, table_of, table_place, column_name, column_number, described, expr_of, items_of}
use Rattle.mv_catalog.specs.Types.{Vars, HasType}
use Rattle.mv_catalog.specs.Statements.{kinds_of, IsItem}
use Rattle.mv_resolve.proofs.Lists.{nothing_left, nothing_right, not_when, all_mapped, each_of, place_found, get_map, small_is}
use Rattle.mv_catalog.proofs.Maps.{map_map}
use Rattle.mv_resolve.proofs.Scopes.{known, Matches, kinds_in, column_typed}
use Rattle.mv_resolve.proofs.Exprs.{expr_claim, in_its_place}
use Rattle.mv_resolve.proofs.Doubles.{all_apart}
use Rattle.mv_resolve.proofs.Parts.{same_kind}

pub same_kinds : (all : List TableDef) (t : TableDef) → kinds_in t.columns ≡ kinds_of (table_of all t)
same_kinds all t = sym (map_map _ (described all) t.columns)

-- what holds of each holds of the first of a name
pub first_holds : {A : Type 0} (P : A → Type 0) (name : A → Text) (xs : List A) (n : Text) (x : A) → All P xs → first_named name xs n ≡ Some x → P x
first_holds P name xs n x all is =
    let at : slice_get xs (place_named name xs n) ≡ Some x = place_found name xs n x is in
    subst P (get_or_from_slice_get xs (place_named name xs n) x x at) (all (place_named name xs n) x (slice_get_within xs (place_named name xs n) x at))

-- the table of a name stands at its number, among all of these
abbrev pub There : List TableInfo → Option TableDef → ℕ → Type 0
There infos None at = Unit {0}
There infos (Some t) at = (all : List TableDef) × (slice_get infos at ≡ Some (table_of all t)) × (length t.columns ≤ 32)

there_by : (tables : List TableDef) (n : Name) (o : Option TableDef) → length tables ≤ 64 → All (λ (t : TableDef). length t.columns ≤ 32) tables → table_named tables n.text ≡ o
    → There (map (table_of tables) tables) o (small (table_place tables n))
there_by tables n None few all is = tt
there_by tables n (Some t) few all is =
    let at : slice_get tables (table_place tables n) ≡ Some t = place_found (λ (d : TableDef). d.name.text) tables n.text t is in
    let lt : table_place tables n < length tables = slice_get_within tables (table_place tables n) t at in (
      tables,
      rw (small_is (table_place tables n) (omega arith)) (get_map (table_of tables) tables (table_place tables n) t at),
      first_holds (λ (d : TableDef). length d.columns ≤ 32) (λ (d : TableDef). d.name.text) tables n.text t all is,
    )

pub there : (tables : List TableDef) (n : Name) → length tables ≤ 64 → All (λ (t : TableDef). length t.columns ≤ 32) tables
    → There (map (table_of tables) tables) (table_named tables n.text) (small (table_place tables n))
there tables n few all = there_by tables n (table_named tables n.text) few all refl

-- a column that is no fault is there
there_of : (columns : List ColDef) (n : Name) (o : Option ColDef) → first_named column_name columns n.text ≡ o → missing_column n.token o ≡ [] → (c : ColDef) × (first_named column_name columns n.text ≡ Some c)
there_of columns n None is h = cc
there_of columns n (Some c) is h = (c, is)

pub column_there : (columns : List ColDef) (n : Name) → column_faults (Some columns) n ≡ [] → (c : ColDef) × (first_named column_name columns n.text ≡ Some c)
column_there columns n h = there_of columns n (first_named column_name columns n.text) refl h

same_step : {A : Type 0} (x y : A) (name : Text) (m n : Text) (b c : Bool) (first : Option A) (p q : ℕ) → same_text name m ≡ b → same_text name n ≡ c
    → (if c then Some x else first) ≡ Some y → (if b then 0 else suc p) ≡ (if c then 0 else suc q) → (first ≡ Some y → p ≡ q → m ≡ n) → m ≡ n
same_step x y name m n true true first p q e f h k ih = sym (told_same name m (sym e)) ∙ told_same name n (sym f)
same_step x y name m n true false first p q e f h k ih = absurd (omega (arith, k))
same_step x y name m n false true first p q e f h k ih = absurd (omega (arith, k))
same_step x y name m n false false first p q e f h k ih = ih h (omega (arith, k))

-- two names at one place are one, where one of them is there
pub same_place : {A : Type 0} (name : A → Text) (xs : List A) (m n : Text) (y : A) → first_named name xs n ≡ Some y → place_named name xs m ≡ place_named name xs n → m ≡ n
same_place name [] m n y h k = cc
same_place name (x ∷ xs) m n y h k =
    same_step x y (name x) m n (same_text (name x) m) (same_text (name x) n) (first_named name xs n) (place_named name xs m) (place_named name xs n) refl refl h k
    (same_place name xs m n y)

-- columns of other names stand at other places
pub place_apart : (columns : List ColDef) (m n : Text) (y : ColDef) → first_named column_name columns n ≡ Some y → same_text m n ≡ false
    → place_named column_name columns m ≢ place_named column_name columns n
place_apart columns m n y is h e = other_text m n (sym h) (same_place column_name columns m n y is e)

apart : (columns : List ColDef) (k c : Name) (y : ColDef) → length columns ≤ 32 → first_named column_name columns c.text ≡ Some y → same_text k.text c.text ≡ false
    → tiny (place_named column_name columns k.text) ≢ column_number columns c
apart columns k c y few is h e =
    let at : slice_get columns (place_named column_name columns c.text) ≡ Some y = place_found column_name columns c.text y is in
    let lt : place_named column_name columns c.text < length columns = slice_get_within columns _ y at in
    place_apart columns k.text c.text y is h (omega (arith, e))

contains_cases : (y : ℕ) (ys : List ℕ) (x : ℕ) → Contains (y ∷ ys) x → (y ≡ x) ⊎ Contains ys x
contains_cases y ys x (zero, lt, e) = inl e
contains_cases y ys x (suc i, lt, e) = inr (i, omega arith, e)

-- a column that is none of the key's names is none of the key's columns
pub no_key : (columns : List ColDef) (key : List Name) (c : Name) (y : ColDef) → length columns ≤ 32 → first_named column_name columns c.text ≡ Some y
    → is_named (λ (k : Name). k.text) key c.text ≡ false → Contains (map (λ (n : Name). tiny (place_named column_name columns n.text)) key) (column_number columns c) → ⊥
no_key columns [] c y few is h (i, lt, e) = absurd (omega arith)
no_key columns (k ∷ ks) c y few is h found =
    let two = or_parts (same_text k.text c.text) (is_named (λ (k : Name). k.text) ks c.text) h in
    ⊎_elim (apart columns k c y few is two.0) (no_key columns ks c y few is two.1)
    (contains_cases (tiny (place_named column_name columns k.text)) (map (λ (n : Name). tiny (place_named column_name columns n.text)) ks) (column_number columns c) found)

-- an item of SET
item_of : (scope : List Entry) (slots : List NamedSlot) (vars : Vars) (all : List TableDef) (t : TableDef) → Matches scope slots vars → length t.columns ≤ 32 → (i : SetItem)
    → names.item_faults scope (Some t) i ≡ [] → IsItem vars (table_of all t) (record { column = column_number t.columns i.column; right = expr_of i.right slots t.columns })
item_of scope slots vars all t m few i h =
    let own = t.columns in
    let place = type_among (Some own) i.column.text in
    let a = column_faults (Some own) i.column in
    let b = when (is_named (λ (k : Name). k.text) t.key i.column.text) (key_set i.column.token) in
    let j = judged i.right scope (Some own) in
    let hab : a ++ b ≡ [] = nothing_left (a ++ b) (in_place place j) h in
    let ha : a ≡ [] = nothing_left a b hab in
    let hj : in_place place j ≡ [] = nothing_right (a ++ b) (in_place place j) h in
    let c = column_typed own i.column few ha in
    let d = column_there own i.column ha in
    let r = expr_claim i.right scope slots vars own m few (nothing_left j.faults (misfit place j.token j.type) hj) in
    let same : r.0 ≡ c.0 = same_kind c.0 r.0 (subst (λ p. clash p (known r.0) ≡ false) c.1 (in_its_place place j r.0 r.1 hj)) in
    let right : HasType vars (kinds_in own) (expr_of i.right slots own) c.0 = subst (HasType vars (kinds_in own) (expr_of i.right slots own)) same r.2 in
    let free : Contains (table_of all t).key (column_number own i.column) → ⊥ =
    no_key own t.key i.column d.0 few d.1 (not_when (is_named (λ (k : Name). k.text) t.key i.column.text) (key_set i.column.token) (nothing_right a b hab)) in (
      c.0,
      subst (λ ks. slice_get ks (column_number own i.column) ≡ Some c.0) (same_kinds all t) c.2,
      free,
      subst (λ ks. HasType vars ks (expr_of i.right slots own) c.0) (same_kinds all t) right,
    )

pub items_are : (scope : List Entry) (slots : List NamedSlot) (vars : Vars) (all : List TableDef) (t : TableDef) → Matches scope slots vars → length t.columns ≤ 32 → (is : List SetItem)
    → flat_map (names.item_faults scope (Some t)) is ≡ [] → All (IsItem vars (table_of all t)) (items_of slots t.columns is)
items_are scope slots vars all t m few is h =
    all_mapped (names.item_faults scope (Some t)) (λ (i : SetItem). record { column = column_number t.columns i.column; right = expr_of i.right slots t.columns })
    (IsItem vars (table_of all t)) (item_of scope slots vars all t m few) is h

-- each sets another column
module _ (columns : List ColDef) (few : length columns ≤ 32) where
  abbrev Stands : SetItem → Type 0
  Stands i = (c : ColDef) × (first_named column_name columns i.column.text ≡ Some c)

  item_apart : (i j : SetItem) → Stands i → Stands j → same_text i.column.text j.column.text ≡ false → column_number columns i.column ≢ column_number columns j.column
  item_apart i j p q h e =
      let li : place_named column_name columns i.column.text < length columns = slice_get_within columns _ p.0 (place_found column_name columns i.column.text p.0 p.1) in
      let lj : place_named column_name columns j.column.text < length columns = slice_get_within columns _ q.0 (place_found column_name columns j.column.text q.0 q.1) in
      place_apart columns i.column.text j.column.text q.0 q.1 h (omega (arith, e))

item_stands : (scope : List Entry) (t : TableDef) (i : SetItem) → names.item_faults scope (Some t) i ≡ [] → (c : ColDef) × (first_named column_name t.columns i.column.text ≡ Some c)
item_stands scope t i h = column_there t.columns i.column (nothing_left _ _ (nothing_left _ _ h))

pub items_once : (scope : List Entry) (slots : List NamedSlot) (t : TableDef) → length t.columns ≤ 32 → (is : List SetItem) → flat_map (names.item_faults scope (Some t)) is ≡ []
    → names.doubles (λ (i : SetItem). i.column) [] is ≡ [] → AllPairs (λ (i j : RSetItem). i.column ≢ j.column) (items_of slots t.columns is)
items_once scope slots t few is h once =
    all_apart (λ (i : SetItem). i.column) (λ (i : SetItem). record { column = column_number t.columns i.column; right = expr_of i.right slots t.columns })
    (λ (i j : RSetItem). i.column ≢ j.column) (λ (i : SetItem). (c : ColDef) × (first_named column_name t.columns i.column.text ≡ Some c)) (item_apart t.columns few) [] is
    (each_of (names.item_faults scope (Some t)) (λ (i : SetItem). (c : ColDef) × (first_named column_name t.columns i.column.text ≡ Some c)) (item_stands scope t) is h) once
