-- The clauses of statements without faults.
use Rattle.std.proofs.Common.{◌≡◌, ℕ, ◌≤◌, false, List, [], ◌∷◌, ◌++◌, Option, Some, None, refl, ap, subst, ◌∙◌, map, length, slice_get, arith, All}
use Rattle.std.specs.List.{flat_map, AllZip}
use Rattle.std.proofs.lemmas.List.{length-map}
use Rattle.std.proofs.lemmas.List.Elements.{All-nil, All-cons}
use Rattle.std.proofs.lemmas.Option.{slice_get_within}
use Rattle.mv_ast.specs.declared.tree.Name.{Name}
use Rattle.mv_ast.specs.declared.tree.ColDef.{ColDef}
use Rattle.mv_ast.specs.declared.tree.Cond.{Cond}
use Rattle.mv_ast.specs.declared.tree.Sort.{Sort}
use Rattle.mv_ast.specs.declared.tree.Agg.{Agg}
use Rattle.mv_ast.specs.declared.tree.Agg.TheVariants.{CountAll, CountDistinct, Sum, Min, Max}
use Rattle.mv_ast.specs.declared.tree.Expr.{Expr}
use Rattle.mv_names.specs.declared.scope.ValueType.{ValueType}
use Rattle.mv_names.specs.declared.scope.ValueType.TheVariants as type'
use Rattle.mv_names.specs.declared.scope.Binding.{Binding}
use Rattle.mv_names.specs.declared.scope.Binding.TheVariants.{Variable}
use Rattle.mv_names.specs.declared.scope.Entry.{Entry}
use Rattle.mv_names.specs.First.{wrong}
use Rattle.mv_names.specs.Named.{Text}
use Rattle.mv_names.specs.Scope.{entry_of, type_in, type_among, types_of}
use Rattle.mv_names.specs.Typing.{clash, misfit, placed, judged, column_faults}
use Rattle.mv_names.specs.Statements as names
use Rattle.mv_resolve.specs.declared.slot.NamedSlot.{NamedSlot}
use Rattle.mv_resolve.specs.Building.{slot_named, number_in, number_of, numbers_of, plain, plains, maybe_plain, cond_of, conds_of, sorts_of, agg_of, column_number}
use Rattle.mv_catalog.specs.Types.{Kind, int, text, Var, declared, Vars, kind_of_column}
use Rattle.mv_catalog.specs.Statements.{IsOfKind, Takes, IsTest, IsSort, IsOffset, IsTotal}
use Rattle.mv_resolve.proofs.Lists.{nothing_left, nothing_right, not_when, all_mapped, tiny_is}
use Rattle.mv_resolve.proofs.Scopes.{known, Means, Same, Matches, kinds_in, column_typed, type_known}
use Rattle.mv_resolve.proofs.Exprs.{expr_claim, in_its_place}

-- two types that don't clash are one
pub same_kind : (k t : Kind) → clash (known k) (known t) ≡ false → t ≡ k
same_kind int int h = refl
same_kind int text h = cc
same_kind text int h = cc
same_kind text text h = refl

-- an expression in a place of any type, of this type, and one in which the columns stand by themselves
pub gives_some : (scope : List Entry) (slots : List NamedSlot) (vars : Vars) → Matches scope slots vars → (place : ValueType) (e : Expr) → placed place scope e ≡ []
    → (t : Kind) × (clash place (known t) ≡ false) × IsOfKind vars t (plain slots e)
gives_some scope slots vars m place e h =
    let r = expr_claim e scope slots vars [] m (omega arith) (nothing_left _ _ h) in
    (r.0, in_its_place place (judged e scope (Some [])) r.0 r.1 h, r.2)

pub gives : (scope : List Entry) (slots : List NamedSlot) (vars : Vars) → Matches scope slots vars → (k : Kind) (place : ValueType) (e : Expr) → place ≡ known k → placed place scope e ≡ []
    → IsOfKind vars k (plain slots e)
gives scope slots vars m k place e is h =
    let r = gives_some scope slots vars m place e h in
    subst (λ t. IsOfKind vars t (plain slots e)) (same_kind k r.0 (subst (λ p. clash p (known r.0) ≡ false) is r.1)) r.2

-- tests, orders and offsets
test_of : (scope : List Entry) (slots : List NamedSlot) (vars : Vars) (columns : List ColDef) → Matches scope slots vars → length columns ≤ 32 → (c : Cond)
    → names.cond_faults scope (Some columns) c ≡ [] → IsTest vars (kinds_in columns) (cond_of slots columns c)
test_of scope slots vars columns m few c h =
    let place = type_among (Some columns) c.column.text in
    let own = column_faults (Some columns) c.column in
    let t = column_typed columns c.column few (nothing_left own (placed place scope c.right) h) in
    let within = slice_get_within (kinds_in columns) (column_number columns c.column) t.0 t.2 in
    let short : length (kinds_in columns) ≡ length columns = length-map columns (λ (d : ColDef). kind_of_column d.kind) in
    (t.0, rw (tiny_is (column_number columns c.column) (omega (arith, within, short, few))) t.2, gives scope slots vars m t.0 place c.right t.1 (nothing_right own (placed place scope c.right) h))

pub tests_of : (scope : List Entry) (slots : List NamedSlot) (vars : Vars) (columns : List ColDef) → Matches scope slots vars → length columns ≤ 32 → (cs : List Cond)
    → names.where_faults scope (Some columns) cs ≡ [] → All (IsTest vars (kinds_in columns)) (conds_of slots columns cs)
tests_of scope slots vars columns m few cs h =
    all_mapped (names.cond_faults scope (Some columns)) (cond_of slots columns)
    (IsTest vars (kinds_in columns)) (test_of scope slots vars columns m few) cs h

sort_of : (columns : List ColDef) → length columns ≤ 32 → (s : Sort) → column_faults (Some columns) s.column ≡ []
    → IsSort (kinds_in columns) (record { column = column_number columns s.column; descending = s.descending })
sort_of columns few s h = let t = column_typed columns s.column few h in slice_get_within (kinds_in columns) (column_number columns s.column) t.0 t.2

pub sorts_are : (columns : List ColDef) → length columns ≤ 32 → (ss : List Sort) → names.order_faults (Some columns) ss ≡ [] → All (IsSort (kinds_in columns)) (sorts_of columns ss)
sorts_are columns few ss h =
    all_mapped (λ (s : Sort). column_faults (Some columns) s.column) (λ (s : Sort). record { column = column_number columns s.column; descending = s.descending })
    (IsSort (kinds_in columns)) (sort_of columns few) ss h

pub offset_is : (scope : List Entry) (slots : List NamedSlot) (vars : Vars) → Matches scope slots vars → (o : Option Expr) → names.offset_faults scope o ≡ [] → IsOffset vars (maybe_plain slots o)
offset_is scope slots vars m None h = tt
offset_is scope slots vars m (Some e) h = gives scope slots vars m int type'.Int e refl h

-- targets
set_means : (m : Binding) (v : Var) (fs : List Text) (token : ℕ) → Means m v fs → names.set_faults token m ≡ [] → (t : Kind) × (names.set_type m ≡ known t) × (v ≡ declared t)
set_means (Variable t) (declared k) fs token means h = (k, means, refl)
set_means (Variable t) v fs token means h = absurd means
set_means m v fs token means h = cc

set_same : (e : Option Entry) (s : Option NamedSlot) (vars : Vars) (token : ℕ) → Same vars e s → names.target_faults token e ≡ []
    → (t : Kind) × (names.target_type e ≡ known t) × (vars (number_in s) ≡ Some (declared t))
set_same None s vars token same h = cc
set_same (Some e) None vars token same h = absurd same
set_same (Some e) (Some s) vars token same h =
    let r = set_means e.binding same.0 s.fields token same.2 h in
    (r.0, r.1, same.1 ∙ ap Some r.2)

pub target_is : (scope : List Entry) (slots : List NamedSlot) (vars : Vars) → Matches scope slots vars → (n : Name) → names.target_faults n.token (entry_of scope n.text) ≡ []
    → (t : Kind) × (names.target_type (entry_of scope n.text) ≡ known t) × (vars (number_of slots n) ≡ Some (declared t))
target_is scope slots vars m n h = set_same (entry_of scope n.text) (slot_named slots n.text) vars n.token (m n.text) h

-- a target that takes values of this type
pub taking : (scope : List Entry) (slots : List NamedSlot) (vars : Vars) → Matches scope slots vars → (k : Kind) (type : ValueType) (n : Name) → type ≡ known k → names.target scope type n ≡ []
    → vars (number_of slots n) ≡ Some (declared k)
taking scope slots vars m k type n is h =
    let own = names.target_faults n.token (entry_of scope n.text) in
    let fit = misfit type n.token (names.target_type (entry_of scope n.text)) in
    let r = target_is scope slots vars m n (nothing_left own fit h) in
    let no_clash : clash type (names.target_type (entry_of scope n.text)) ≡ false = not_when (clash type (names.target_type (entry_of scope n.text))) (wrong n.token) (nothing_right own fit h) in
    let still : clash (known k) (known r.0) ≡ false = subst (λ u. clash u (known r.0) ≡ false) is (subst (λ u. clash type u ≡ false) r.1 no_clash) in
    subst (λ t. vars (number_of slots n) ≡ Some (declared t)) (same_kind k r.0 still) r.2

pub targets_take : (scope : List Entry) (slots : List NamedSlot) (vars : Vars) (columns : List ColDef) → Matches scope slots vars → length columns ≤ 32 → (cs to : List Name) → length cs ≡ length to
    → flat_map (column_faults (Some columns)) cs ≡ [] → names.targets scope (types_of (Some columns) cs) to ≡ [] → AllZip (Takes vars (kinds_in columns)) (map (column_number columns) cs) (numbers_of slots to)
targets_take scope slots vars columns m few [] [] e h k = tt
targets_take scope slots vars columns m few [] (n ∷ ns) e h k = cc
targets_take scope slots vars columns m few (c ∷ cs) [] e h k = cc
targets_take scope slots vars columns m few (c ∷ cs) (n ∷ ns) e h k =
    let own = column_faults (Some columns) c in
    let type = type_among (Some columns) c.text in
    let t = column_typed columns c few (nothing_left own (flat_map (column_faults (Some columns)) cs) h) in
    let rest = names.targets scope (types_of (Some columns) cs) ns in (
      (t.0, t.2, taking scope slots vars m t.0 type n t.1 (nothing_left (names.target scope type n) rest k)),
      targets_take scope slots vars columns m few cs ns (cc) (nothing_right own (flat_map (column_faults (Some columns)) cs) h) (nothing_right (names.target scope type n) rest k),
    )

-- totals
sum_is : (columns : List ColDef) (n : Name) → length columns ≤ 32 → column_faults (Some columns) n ++ misfit type'.Int n.token (type_among (Some columns) n.text) ≡ []
    → slice_get (kinds_in columns) (column_number columns n) ≡ Some int
sum_is columns n few h =
    let own = column_faults (Some columns) n in
    let type = type_among (Some columns) n.text in
    let t = column_typed columns n few (nothing_left own (misfit type'.Int n.token type) h) in
    let no_clash : clash type'.Int type ≡ false = not_when (clash type'.Int type) (wrong n.token) (nothing_right own (misfit type'.Int n.token type) h) in
    subst (λ k. slice_get (kinds_in columns) (column_number columns n) ≡ Some k) (same_kind int t.0 (subst (λ u. clash type'.Int u ≡ false) t.1 no_clash)) t.2

pub total_is : (columns : List ColDef) (agg : Agg) → length columns ≤ 32 → names.agg_faults (Some columns) agg ≡ []
    → (k : Kind) × (names.agg_type (Some columns) agg ≡ known k) × IsTotal (kinds_in columns) (agg_of columns agg) k
total_is columns CountAll few h = (int, refl, refl)
total_is columns (CountDistinct n) few h =
    let t = column_typed columns n few h in
    (int, refl, (refl, slice_get_within (kinds_in columns) (column_number columns n) t.0 t.2))
total_is columns (Sum n) few h = (int, refl, (refl, sum_is columns n few h))
total_is columns (Min n) few h = column_typed columns n few h
total_is columns (Max n) few h = column_typed columns n few h

-- values of INSERT and PRINT
pub values_are : (scope : List Entry) (slots : List NamedSlot) (vars : Vars) → Matches scope slots vars → (columns : List ColDef) (es : List Expr) → length es ≡ length columns
    → names.values_faults scope columns es ≡ [] → AllZip (IsOfKind vars) (kinds_in columns) (plains slots es)
values_are scope slots vars m [] [] e h = tt
values_are scope slots vars m [] (x ∷ xs) e h = cc
values_are scope slots vars m (c ∷ cs) [] e h = cc
values_are scope slots vars m (c ∷ cs) (x ∷ xs) e h =
    let own = placed (type_in c.kind) scope x in (
      gives scope slots vars m (kind_of_column c.kind) (type_in c.kind) x (type_known c.kind) (nothing_left own (names.values_faults scope cs xs) h),
      values_are scope slots vars m cs xs (cc) (nothing_right own (names.values_faults scope cs xs) h),
    )

pub printed : (scope : List Entry) (slots : List NamedSlot) (vars : Vars) → Matches scope slots vars → (es : List Expr) → names.values_faults scope [] es ≡ []
    → All (λ e. (t : Kind) × IsOfKind vars t e) (plains slots es)
printed scope slots vars m [] h = All-nil (λ e. (t : Kind) × IsOfKind vars t e)
printed scope slots vars m (x ∷ xs) h =
    let own = placed type'.Unknown scope x in
    let r = gives_some scope slots vars m type'.Unknown x (nothing_left own (names.values_faults scope [] xs) h) in
    All-cons (λ e. (t : Kind) × IsOfKind vars t e) (plain slots x) (plains slots xs) (r.0, r.2) (printed scope slots vars m xs (nothing_right own (names.values_faults scope [] xs) h))
