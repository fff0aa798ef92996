-- A script without faults, within the limits, stands for a program of one piece.
use Rattle.std.proofs.Common.{◌≡◌, ◌≢◌, ℕ, suc, ◌≤◌, ◌<◌, Bool, true, false, not, ◌||◌, ◌==◌, List, [], ◌∷◌, ◌++◌, Option, Some, None, refl, sym, ap, subst, map, length, slice_get, arith, All, leb-true, eqb-true, cond, if◌then◌else◌}
use Rattle.std.specs.List.{flat_map, filter, AllZip, AllPairs}
use Rattle.std.proofs.lemmas.List.{length-map}
use Rattle.std.proofs.lemmas.List.Elements.{All-nil, All-cons, All-tail, All-append}
use Rattle.std.proofs.lemmas.Option.{slice_get_within}
use Rattle.std.proofs.lemmas.Bool.{not-false}
use Rattle.mv_values.specs.declared.schema.ColType.{ColType}
use Rattle.mv_values.specs.declared.schema.ColType.TheVariants as column
use Rattle.mv_values.specs.declared.schema.Column.{Column}
use Rattle.mv_values.specs.declared.schema.TableInfo.{TableInfo}
use Rattle.mv_values.specs.declared.value.Value.{Value}
use Rattle.mv_values.specs.declared.value.Value.TheVariants as value
use Rattle.mv_ast.specs.declared.limit.Which.TheVariants as limit
use Rattle.mv_ast.specs.declared.tree.Name.{Name}
use Rattle.mv_ast.specs.declared.tree.Lit.{Lit}
use Rattle.mv_ast.specs.declared.tree.LitRow.{LitRow}
use Rattle.mv_ast.specs.declared.tree.ColDef.{ColDef}
use Rattle.mv_ast.specs.declared.tree.TableDef.{TableDef}
use Rattle.mv_ast.specs.declared.tree.Param.{Param}
use Rattle.mv_ast.specs.declared.tree.ParamKind.{ParamKind}
use Rattle.mv_ast.specs.declared.tree.ParamKind.TheVariants as param
use Rattle.mv_ast.specs.declared.tree.ProcDef.{ProcDef}
use Rattle.mv_ast.specs.declared.tree.CopyDef.{CopyDef}
use Rattle.mv_ast.specs.declared.tree.Arg.{Arg}
use Rattle.mv_ast.specs.declared.tree.Arg.TheVariants as arg
use Rattle.mv_ast.specs.declared.tree.CallDef.{CallDef}
use Rattle.mv_ast.specs.declared.tree.Item.{Item}
use Rattle.mv_ast.specs.declared.tree.ItemKind.{ItemKind}
use Rattle.mv_ast.specs.declared.tree.ItemKind.TheVariants.{Table, Proc, Copy, Call, Journal}
use Rattle.mv_ast.specs.declared.tree.Script.{Script}
use Rattle.mv_ast.specs.Limits.{too_many, column_token, name_token, row_passes, together, table_passes, procedure_passes, item_passes, is_counted, script_passes}
use Rattle.mv_ast.specs.Keys.{NamesKey, HasKeys}
use Rattle.mv_ast.proofs.Limited.{few, tables_kept, procedures_kept, items_kept}
use Rattle.mv_names.specs.First.{wrong, unknown}
use Rattle.mv_names.specs.Named.{Text, same_text, first_named, place_named, is_named}
use Rattle.mv_names.specs.Items.{table_in, procedure_in, parts_of, lates}
use Rattle.mv_names.specs.Scope.{type_in, type_of_column}
use Rattle.mv_names.specs.Typing.{clash}
use Rattle.mv_names.specs.Statements.{doubles, table_named, missing_table}
use Rattle.mv_names.specs.Faults as faults
use Rattle.mv_resolve.specs.Building.{tiny, column_name, parent_number, described, table_of, table_place, row_of, rows_of, param_of, procedure_of, copy_of, argument_of, call_of, resolved_of}
use Rattle.mv_catalog.specs.Types.{kind_of_column}
use Rattle.mv_catalog.specs.Text.{IsOf, IsRow, IsTable, IsKeyOf, Refers, HasParent, HaveParents, RowsFit, Suits, IsCall, IsProcedure, FitsText}
use Rattle.mv_resolve.proofs.Lists.{nothing_left, nothing_right, not_when, all_mapped, each_of, get_map, place_found, small_is, tiny_is}
use Rattle.mv_catalog.proofs.Maps.{map_map}
use Rattle.mv_resolve.proofs.Tables.{first_holds, place_apart}
use Rattle.mv_resolve.proofs.Doubles.{all_apart}
use Rattle.mv_resolve.proofs.Procs.{procedure_is}

-- Literals

value_of : (type : ColType) (v : Value) → faults.fits type v ≡ true → IsOf type v
value_of column.Int (value.Int z) h = tt
value_of column.Int (value.Text t) h = cc
value_of (column.Text n) (value.Int z) h = cc
value_of (column.Text n) (value.Text t) h = leb-true (length t) n h

literal_of : (type : ColType) (l : Lit) → faults.literal type l ≡ [] → IsOf type l.value
literal_of type l h = value_of type l.value (not-false (faults.fits type l.value) (not_when (not (faults.fits type l.value)) (wrong l.token) h))

types_in : List ColDef → List ColType
types_in columns = map (λ (c : ColDef). c.kind) columns

literals_of : (columns : List ColDef) (ls : List Lit) → length ls ≡ length columns → faults.literals columns ls ≡ [] → AllZip IsOf (map (λ (c : ColDef). c.kind) columns) (map (λ (l : Lit). l.value) ls)
literals_of [] [] e h = tt
literals_of [] (l ∷ ls) e h = cc
literals_of (c ∷ cs) [] e h = cc
literals_of (c ∷ cs) (l ∷ ls) e h =
    let a = faults.literal c.kind l in
    let b = faults.literals cs ls in
    (literal_of c.kind l (nothing_left a b h), literals_of cs ls (cc) (nothing_right a b h))

row_step : (columns : List ColDef) (r : LitRow) (b : Bool) → length r.values == length columns ≡ b → (if b then faults.literals columns r.values else wrong r.token ∷ []) ≡ []
    → IsRow (map (λ (c : ColDef). c.kind) columns) (row_of r)
row_step columns r true e h = literals_of columns r.values (eqb-true (length r.values) (length columns) e) h
row_step columns r false e h = cc

row_is : (columns : List ColDef) (r : LitRow) → faults.row columns r ≡ [] → IsRow (map (λ (c : ColDef). c.kind) columns) (row_of r)
row_is columns r h = row_step columns r (length r.values == length columns) refl h

rows_are : (columns : List ColDef) (rs : List LitRow) → faults.rows columns rs ≡ [] → All (IsRow (map (λ (c : ColDef). c.kind) columns)) (rows_of rs)
rows_are columns rs h = all_mapped (faults.row columns) row_of (IsRow (map (λ (c : ColDef). c.kind) columns)) (row_is columns) rs h

-- Tables

within_step : (b : Bool) (n : Bool) (p l : ℕ) → (b || n) ≡ true → (n ≡ true → p < l) → (if b then 0 else suc p) < suc l
within_step true n p l h ih = omega arith
within_step false n p l h ih = let lt = ih h in omega arith

-- a name that is there has a place
named_within : {A : Type 0} (name : A → Text) (xs : List A) (n : Text) → is_named name xs n ≡ true → place_named name xs n < length xs
named_within name [] n h = cc
named_within name (x ∷ xs) n h =
    within_step (same_text (name x) n) (is_named name xs n) (place_named name xs n) (length xs) h (named_within name xs n)

found_step : {A : Type 0} (x : A) (b n : Bool) (first : Option A) → (b || n) ≡ true → (n ≡ true → (y : A) × (first ≡ Some y)) → (y : A) × ((if b then Some x else first) ≡ Some y)
found_step x true n first h ih = (x, refl)
found_step x false n first h ih = ih h

named_found : {A : Type 0} (name : A → Text) (xs : List A) (n : Text) → is_named name xs n ≡ true → (y : A) × (first_named name xs n ≡ Some y)
named_found name [] n h = cc
named_found name (x ∷ xs) n h = found_step x (same_text (name x) n) (is_named name xs n) (first_named name xs n) h (named_found name xs n)

key_named : (columns : List ColDef) (n : Name) → faults.missing_key columns n ≡ [] → is_named column_name columns n.text ≡ true
key_named columns n h = not-false (is_named column_name columns n.text) (not_when (not (is_named column_name columns n.text)) (unknown n.token) h)

module _ (columns : List ColDef) (most : length columns ≤ 32) where
  abbrev place : Name → ℕ
  place n = tiny (place_named column_name columns n.text)

  key_within : (all : List TableDef) (n : Name) → faults.missing_key columns n ≡ [] → place n < length (map (described all) columns)
  key_within all n h =
      let lt = named_within column_name columns n.text (key_named columns n h) in
      omega (arith, length-map columns (described all))

  apart : (n k : Name) → is_named column_name columns n.text ≡ true → is_named column_name columns k.text ≡ true → same_text n.text k.text ≡ false → place n ≢ place k
  apart n k hn hk other e =
      let ln = named_within column_name columns n.text hn in
      let lk = named_within column_name columns k.text hk in
      let y = named_found column_name columns k.text hk in
      place_apart columns n.text k.text y.0 y.1 other (omega (arith, e))

  once : (ks : List Name) → flat_map (faults.missing_key columns) ks ≡ [] → doubles (λ (n : Name). n) [] ks ≡ [] → AllPairs (λ c d. c ≢ d) (map place ks)
  once ks h k =
      all_apart (λ (n : Name). n) place (λ c d. c ≢ d) (λ (n : Name). is_named column_name columns n.text ≡ true) apart [] ks
      (each_of (faults.missing_key columns) (λ (n : Name). is_named column_name columns n.text ≡ true) (key_named columns) ks h) k

table_most : (t : TableDef) → table_passes t ≡ [] → length t.columns ≤ 32
table_most t h =
    few limit.Columns 32 column_token t.columns
    (nothing_left (too_many limit.Columns 32 column_token t.columns) (too_many limit.Key 8 name_token t.key ++ together (map row_passes t.rows)) h)

table_is : (all : List TableDef) (t : TableDef) → 0 < length t.key → length t.columns ≤ 32 → faults.table all t ≡ [] → IsTable (table_of all t)
table_is all t some most h =
    let a = faults.column_doubles t.columns ++ flat_map (faults.column_reference all) t.columns in
    let b = flat_map (faults.missing_key t.columns) t.key in
    let c = faults.key_doubles t.key in
    let d = faults.rows t.columns t.rows in
    let hc : (a ++ b) ++ c ≡ [] = nothing_left ((a ++ b) ++ c) d h in
    let hb : b ≡ [] = nothing_right a b (nothing_left (a ++ b) c hc) in
    let key = all_mapped (faults.missing_key t.columns) (λ (n : Name). tiny (place_named column_name t.columns n.text)) (λ c. c < length (map (described all) t.columns)) (key_within t.columns most all) t.key hb in
    let count : length (table_of all t).key ≡ length t.key = length-map t.key (λ (n : Name). tiny (place_named column_name t.columns n.text)) in
    record {
      wide = (let first = key 0 0 (omega (arith, count)) in omega arith);
      narrow = omega (arith, most, length-map t.columns (described all));
      some = omega (arith, count);
      within = key;
      once = once t.columns most t.key hb (nothing_right (a ++ b) c hc);
    }

table_rows : (all : List TableDef) (t : TableDef) → faults.table all t ≡ [] → RowsFit (table_of all t) (rows_of t.rows)
table_rows all t h =
    let a = faults.column_doubles t.columns ++ flat_map (faults.column_reference all) t.columns in
    let b = flat_map (faults.missing_key t.columns) t.key in
    let c = faults.key_doubles t.key in
    let d = faults.rows t.columns t.rows in
    subst (λ types. All (IsRow types) (rows_of t.rows)) (sym (map_map (λ (c : Column). c.kind) (described all) t.columns)) (rows_are t.columns t.rows (nothing_right ((a ++ b) ++ c) d h))

tables_are : (all ts : List TableDef) → All (λ (t : TableDef). 0 < length t.key) ts → All (λ (t : TableDef). length t.columns ≤ 32) ts → flat_map (faults.table all) ts ≡ []
    → All IsTable (map (table_of all) ts)
tables_are all [] some most h = All-nil IsTable
tables_are all (t ∷ ts) some most h =
    let a = faults.table all t in
    let b = flat_map (faults.table all) ts in
    All-cons IsTable (table_of all t) (map (table_of all) ts) (table_is all t (some 0 t (omega arith)) (most 0 t (omega arith)) (nothing_left a b h))
    (tables_are all ts (All-tail (λ (t : TableDef). 0 < length t.key) t ts some) (All-tail (λ (t : TableDef). length t.columns ≤ 32) t ts most) (nothing_right a b h))

all_rows : (all ts : List TableDef) → flat_map (faults.table all) ts ≡ [] → AllZip RowsFit (map (table_of all) ts) (map (λ (t : TableDef). rows_of t.rows) ts)
all_rows all [] h = tt
all_rows all (t ∷ ts) h =
    let a = faults.table all t in
    let b = flat_map (faults.table all) ts in
    (table_rows all t (nothing_left a b h), all_rows all ts (nothing_right a b h))

-- Parents

same_kind : (type other : ColType) → not (clash (type_in type) (type_in other)) ≡ true → kind_of_column other ≡ kind_of_column type
same_kind column.Int column.Int h = refl
same_kind column.Int (column.Text n) h = cc
same_kind (column.Text m) column.Int h = cc
same_kind (column.Text m) (column.Text n) h = refl

-- a key of one column, which is there and of the type
key_is : (all : List TableDef) (type : ColType) (columns : List ColDef) (key : List Name) (t : TableInfo) → length columns ≤ 32 → faults.can_be_key type columns key ≡ true
    → flat_map (faults.missing_key columns) key ≡ [] → t.columns ≡ map (described all) columns → t.key ≡ map (λ (n : Name). tiny (place_named column_name columns n.text)) key → IsKeyOf type t
key_is all type columns [] t few can none is keyed = cc
key_is all type columns (k ∷ []) t few can none is keyed =
    let at = place_named column_name columns k.text in
    let found = named_found column_name columns k.text (key_named columns k (nothing_left (faults.missing_key columns k) [] none)) in
    let there : slice_get columns at ≡ Some found.0 = place_found column_name columns k.text found.0 found.1 in
    let within : at < length columns = slice_get_within columns at found.0 there in
    let got : slice_get (map (described all) columns) (tiny at) ≡ Some (described all found.0) = rw (tiny_is at (omega arith)) (get_map (described all) columns at found.0 there) in (
      tiny at,
      described all found.0,
      keyed,
      subst (λ cs. slice_get cs (tiny at) ≡ Some (described all found.0)) (sym is) got,
      same_kind type found.0.kind (subst (λ o. not (clash (type_in type) (type_of_column o)) ≡ true) found.1 can),
    )
key_is all type columns (k ∷ l ∷ ks) t few can none is keyed = cc

-- what each of the parts makes nothing of
each_none : {A B : Type 0} (f : A → List B) (xs : List A) → flat_map f xs ≡ [] → All (λ x. f x ≡ []) xs
each_none f [] h = All-nil (λ x. f x ≡ [])
each_none f (x ∷ xs) h = All-cons (λ x. f x ≡ []) x xs (nothing_left (f x) (flat_map f xs) h) (each_none f xs (nothing_right (f x) (flat_map f xs) h))

module _ (all : List TableDef) (few_tables : length all ≤ 64) (narrow : All (λ (t : TableDef). length t.columns ≤ 32) all) (none : flat_map (faults.table all) all ≡ []) where
  keys_there : (t : TableDef) → faults.table all t ≡ [] → flat_map (faults.missing_key t.columns) t.key ≡ []
  keys_there t h =
      let a = faults.column_doubles t.columns ++ flat_map (faults.column_reference all) t.columns in
      let b = flat_map (faults.missing_key t.columns) t.key in
      let c = faults.key_doubles t.key in
      let d = faults.rows t.columns t.rows in
      nothing_right a b (nothing_left (a ++ b) c (nothing_left ((a ++ b) ++ c) d h))

  parent_is : (type : ColType) (n : Name) (o : Option TableDef) → table_named all n.text ≡ o → faults.parent type n o ≡ [] → Refers (map (table_of all) all) type (Some (tiny (table_place all n)))
  parent_is type n None is h = cc
  parent_is type n (Some t) is h =
      let at : slice_get all (table_place all n) ≡ Some t = place_found (λ (d : TableDef). d.name.text) all n.text t is in
      let lt : table_place all n < length all = slice_get_within all (table_place all n) t at in
      let most : length t.columns ≤ 32 = first_holds (λ (d : TableDef). length d.columns ≤ 32) (λ (d : TableDef). d.name.text) all n.text t narrow is in
      let own : faults.table all t ≡ [] = first_holds (λ (d : TableDef). faults.table all d ≡ []) (λ (d : TableDef). d.name.text) all n.text t (each_none (faults.table all) all none) is in
      let can : faults.can_be_key type t.columns t.key ≡ true = not-false (faults.can_be_key type t.columns t.key) (not_when (not (faults.can_be_key type t.columns t.key)) (wrong n.token) h) in
      (table_of all t, rw (tiny_is (table_place all n) (omega arith)) (get_map (table_of all) all (table_place all n) t at), key_is all type t.columns t.key (table_of all t) most can (keys_there t own) refl refl)

  refers_to : (type : ColType) (o : Option Name) → faults.reference all type o ≡ [] → Refers (map (table_of all) all) type (parent_number all o)
  refers_to type None h = tt
  refers_to type (Some n) h = parent_is type n (table_named all n.text) refl h

  own_parents : (t : TableDef) → faults.table all t ≡ [] → All (HasParent (map (table_of all) all)) (map (described all) t.columns)
  own_parents t h =
      let r = flat_map (faults.column_reference all) t.columns in
      let a = faults.column_doubles t.columns in
      let b = flat_map (faults.missing_key t.columns) t.key in
      let c = faults.key_doubles t.key in
      let d = faults.rows t.columns t.rows in
      all_mapped (faults.column_reference all) (described all) (HasParent (map (table_of all) all)) (λ c e. refers_to c.kind c.refers e) t.columns
      (nothing_right a r (nothing_left (a ++ r) b (nothing_left ((a ++ r) ++ b) c (nothing_left (((a ++ r) ++ b) ++ c) d h))))

  parents_are : HaveParents (map (table_of all) all)
  parents_are = all_mapped (faults.table all) (table_of all) (λ (t : TableInfo). All (HasParent (map (table_of all) all)) t.columns) own_parents all none

-- Procedures

procedures_are : (tables : List TableDef) → length tables ≤ 64 → All (λ (t : TableDef). length t.columns ≤ 32) tables → (ps : List ProcDef) → flat_map (faults.procedure tables) ps ≡ []
    → All (λ (p : ProcDef). procedure_passes p ≡ []) ps → All (IsProcedure (map (table_of tables) tables)) (map (procedure_of tables) ps)
procedures_are tables few_tables narrow [] h k = All-nil (IsProcedure (map (table_of tables) tables))
procedures_are tables few_tables narrow (p ∷ ps) h k =
    let a = faults.procedure tables p in
    let b = flat_map (faults.procedure tables) ps in
    All-cons (IsProcedure (map (table_of tables) tables)) (procedure_of tables p) (map (procedure_of tables) ps) (procedure_is tables p few_tables narrow (nothing_left a b h) (k 0 p (omega arith)))
    (procedures_are tables few_tables narrow ps (nothing_right a b h) (All-tail (λ (p : ProcDef). procedure_passes p ≡ []) p ps k))

-- Copies and calls

copy_by : (tables : List TableDef) (c : CopyDef) (o : Option TableDef) → length tables ≤ 64 → table_named tables c.table.text ≡ o → missing_table c.table.token o ≡ []
    → tiny (table_place tables c.table) < length (map (table_of tables) tables)
copy_by tables c None few_tables is h = cc
copy_by tables c (Some t) few_tables is h =
    let at : slice_get tables (table_place tables c.table) ≡ Some t = place_found (λ (d : TableDef). d.name.text) tables c.table.text t is in
    let lt : table_place tables c.table < length tables = slice_get_within tables (table_place tables c.table) t at in
    omega (arith, length-map tables (table_of tables))

argument_suits : (k : ParamKind) (a : Arg) → faults.argument k a ≡ [] → Suits (param_of k) (argument_of a)
argument_suits (param.One type) (arg.One l) h = literal_of type l h
argument_suits (param.One type) (arg.Many rs) h = cc
argument_suits (param.Many columns) (arg.One l) h = cc
argument_suits (param.Many columns) (arg.Many rs) h = rows_are columns rs.rows h

arguments_suit : (qs : List Param) (as' : List Arg) → length as' ≡ length qs → faults.arguments qs as' ≡ [] → AllZip Suits (map (λ (q : Param). param_of q.kind) qs) (map argument_of as')
arguments_suit [] [] e h = tt
arguments_suit [] (a ∷ as') e h = cc
arguments_suit (q ∷ qs) [] e h = cc
arguments_suit (q ∷ qs) (a ∷ as') e h =
    let b = faults.argument q.kind a in
    let c = faults.arguments qs as' in
    (argument_suits q.kind a (nothing_left b c h), arguments_suit qs as' (cc) (nothing_right b c h))

call_step : (tables : List TableDef) (p : ProcDef) (c : CallDef) (b : Bool) → length c.arguments == length p.params ≡ b
    → (if b then faults.arguments p.params c.arguments else wrong (faults.arguments_token c.arguments c.name) ∷ []) ≡ [] → AllZip Suits (procedure_of tables p).params (map argument_of c.arguments)
call_step tables p c true e h = arguments_suit p.params c.arguments (eqb-true (length c.arguments) (length p.params) e) h
call_step tables p c false e h = cc

call_by : (tables : List TableDef) (ps : List ProcDef) (c : CallDef) (o : Option ProcDef) → length ps ≤ 256 → faults.procedure_named ps c.name ≡ o → faults.call_to o c ≡ []
    → IsCall (map (procedure_of tables) ps) (call_of ps c)
call_by tables ps c None few_procedures is h = cc
call_by tables ps c (Some p) few_procedures is h =
    let n = place_named (λ (q : ProcDef). q.name.text) ps c.name.text in
    let at : slice_get ps n ≡ Some p = place_found (λ (q : ProcDef). q.name.text) ps c.name.text p is in
    let lt : n < length ps = slice_get_within ps n p at in (
      procedure_of tables p,
      rw (small_is n (omega arith)) (get_map (procedure_of tables) ps n p at),
      call_step tables p c (length c.arguments == length p.params) refl h,
    )

-- The parts of a script

counted_tables : (k : ItemKind) (i : Item) (ts : List TableDef) (rest : List Item) → length ts ≡ length rest → length (table_in k ++ ts) ≡ length (cond (is_counted limit.Tables k) (i ∷ rest) rest)
counted_tables (Table t) i ts rest h = ap suc h
counted_tables (Proc p) i ts rest h = h
counted_tables (Copy c) i ts rest h = h
counted_tables (Call c) i ts rest h = h
counted_tables (Journal s) i ts rest h = h

counted_procedures : (k : ItemKind) (i : Item) (ps : List ProcDef) (rest : List Item) → length ps ≡ length rest → length (procedure_in k ++ ps) ≡ length (cond (is_counted limit.Procedures k) (i ∷ rest) rest)
counted_procedures (Table t) i ps rest h = h
counted_procedures (Proc p) i ps rest h = ap suc h
counted_procedures (Copy c) i ps rest h = h
counted_procedures (Call c) i ps rest h = h
counted_procedures (Journal s) i ps rest h = h

count_tables : (is : List Item) → length (flat_map (λ (i : Item). table_in i.kind) is) ≡ length (filter (λ (i : Item). is_counted limit.Tables i.kind) is)
count_tables [] = refl
count_tables (i ∷ is) = counted_tables i.kind i (flat_map (λ (j : Item). table_in j.kind) is) (filter (λ (j : Item). is_counted limit.Tables j.kind) is) (count_tables is)

count_procedures : (is : List Item) → length (flat_map (λ (i : Item). procedure_in i.kind) is) ≡ length (filter (λ (i : Item). is_counted limit.Procedures i.kind) is)
count_procedures [] = refl
count_procedures (i ∷ is) =
    counted_procedures i.kind i (flat_map (λ (j : Item). procedure_in j.kind) is) (filter (λ (j : Item). is_counted limit.Procedures j.kind) is) (count_procedures is)

kept_table : (k : ItemKind) → item_passes k ≡ [] → All (λ (t : TableDef). length t.columns ≤ 32) (table_in k)
kept_table (Table t) h = All-cons (λ (t : TableDef). length t.columns ≤ 32) t [] (table_most t h) (All-nil (λ (t : TableDef). length t.columns ≤ 32))
kept_table k h = All-nil (λ (t : TableDef). length t.columns ≤ 32)

kept_procedure : (k : ItemKind) → item_passes k ≡ [] → All (λ (p : ProcDef). procedure_passes p ≡ []) (procedure_in k)
kept_procedure (Proc p) h = All-cons (λ (p : ProcDef). procedure_passes p ≡ []) p [] h (All-nil (λ (p : ProcDef). procedure_passes p ≡ []))
kept_procedure k h = All-nil (λ (p : ProcDef). procedure_passes p ≡ [])

keyed_table : (k : ItemKind) → NamesKey k → All (λ (t : TableDef). 0 < length t.key) (table_in k)
keyed_table (Table t) h = All-cons (λ (t : TableDef). 0 < length t.key) t [] h (All-nil (λ (t : TableDef). 0 < length t.key))
keyed_table k h = All-nil (λ (t : TableDef). 0 < length t.key)

-- what holds of the parts of each item
kept_all : {A : Type 0} (f : ItemKind → List A) (P : A → Type 0) (Q : ItemKind → Type 0) → ((k : ItemKind) → Q k → All P (f k)) → (is : List Item) → All (λ (i : Item). Q i.kind) is
    → All P (flat_map (λ (i : Item). f i.kind) is)
kept_all f P Q each [] h = All-nil P
kept_all f P Q each (i ∷ is) h =
    All-append P (f i.kind) (flat_map (λ (j : Item). f j.kind) is) (each i.kind (h 0 i (omega arith)))
    (kept_all f P Q each is (All-tail (λ (j : Item). Q j.kind) i is h))

-- The whole

pub fits_text : (script : Script) → faults.faults script ≡ [] → script_passes script ≡ [] → HasKeys script → FitsText (resolved_of script)
fits_text script h k keys =
    let p = parts_of script.items in
    let a = faults.table_doubles p.tables in
    let b = faults.procedure_doubles p.procedures in
    let c = flat_map (faults.table p.tables) p.tables in
    let d = flat_map (faults.procedure p.tables) p.procedures in
    let e = flat_map (faults.copy p.tables) p.copies in
    let f = flat_map (faults.call p.procedures) p.calls in
    let all : ((((a ++ b) ++ c) ++ d) ++ e) ++ f ≡ [] = nothing_right (lates 0 script.items) (((((a ++ b) ++ c) ++ d) ++ e) ++ f) h in
    let he : (((a ++ b) ++ c) ++ d) ++ e ≡ [] = nothing_left ((((a ++ b) ++ c) ++ d) ++ e) f all in
    let hd : ((a ++ b) ++ c) ++ d ≡ [] = nothing_left (((a ++ b) ++ c) ++ d) e he in
    let hc : c ≡ [] = nothing_right (a ++ b) c (nothing_left ((a ++ b) ++ c) d hd) in
    let kept = items_kept script k in
    let few_tables : length p.tables ≤ 64 = (let most = tables_kept script k in omega (arith, count_tables script.items)) in
    let few_procedures : length p.procedures ≤ 256 = (let most = procedures_kept script k in omega (arith, count_procedures script.items)) in
    let narrow : All (λ (t : TableDef). length t.columns ≤ 32) p.tables = kept_all table_in (λ (t : TableDef). length t.columns ≤ 32) (λ k. item_passes k ≡ []) kept_table script.items kept in
    let named : All (λ (t : TableDef). 0 < length t.key) p.tables = kept_all table_in (λ (t : TableDef). 0 < length t.key) NamesKey keyed_table script.items keys in
    record {
      few = omega (arith, few_tables, length-map p.tables (table_of p.tables));
      tables = tables_are p.tables p.tables named narrow hc;
      parents = parents_are p.tables few_tables narrow hc;
      rows = all_rows p.tables p.tables hc;
      procedures = procedures_are p.tables few_tables narrow p.procedures (nothing_right ((a ++ b) ++ c) d hd) (kept_all procedure_in (λ (p : ProcDef). procedure_passes p ≡ []) (λ k. item_passes k ≡ []) kept_procedure script.items kept);
      copies = all_mapped (faults.copy p.tables) (copy_of p.tables) (λ c. c.table < length (map (table_of p.tables) p.tables))
          (λ c none. copy_by p.tables c (table_named p.tables c.table.text) few_tables refl none) p.copies (nothing_right (((a ++ b) ++ c) ++ d) e he);
      calls = all_mapped (faults.call p.procedures) (call_of p.procedures) (IsCall (map (procedure_of p.tables) p.procedures))
          (λ c none. call_by p.tables p.procedures c (faults.procedure_named p.procedures c.name) few_procedures refl none) p.calls (nothing_right ((((a ++ b) ++ c) ++ d) ++ e) f all);
    }
