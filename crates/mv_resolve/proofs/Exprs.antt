-- Expressions without faults have types.
use Rattle.std.proofs.Common.{◌≡◌, ℕ, ◌≤◌, ◌<◌, false, List, [], Option, Some, None, refl, sym, ap, subst, subst₂, ◌∙◌, length, slice_get, arith}
use Rattle.std.proofs.lemmas.Option.{slice_get_within}
use Rattle.mv_values.specs.declared.value.Value.{Value}
use Rattle.mv_values.specs.declared.value.Value.TheVariants as value
use Rattle.mv_ast.specs.declared.tree.Name.{Name}
use Rattle.mv_ast.specs.declared.tree.OneOp.{OneOp}
use Rattle.mv_ast.specs.declared.tree.OneOp.TheVariants.{Neg, Not, TextOf}
use Rattle.mv_ast.specs.declared.tree.TwoOp.{TwoOp}
use Rattle.mv_ast.specs.declared.tree.TwoOp.TheVariants.{Add, Sub, Mul, Div, Rem, Join, Compare, And, Or, Left, Contains}
use Rattle.mv_ast.specs.declared.tree.ColDef.{ColDef}
use Rattle.mv_ast.specs.declared.tree.Expr.{Expr, Expr-F, fold-roll-Expr, ind-Expr, map-Expr}
use Rattle.mv_ast.specs.declared.tree.ExprKind.{ExprKind}
use Rattle.mv_ast.specs.declared.tree.ExprKind.TheOpen.{ExprKind-F}
use Rattle.mv_ast.specs.declared.tree.ExprKind.TheOpen as tree
use Rattle.mv_ast.specs.declared.tree.ExprKind.TheViews.{roll-ExprKind}
use Rattle.mv_ast.specs.declared.tree.Expr.{roll-Expr}
use Rattle.mv_ast.specs.declared.tree.ExprKind.TheFolds.{fold-ExprKind, fold-roll-ExprKind, map-ExprKind}
use Rattle.mv_names.specs.declared.scope.ValueType.{ValueType}
use Rattle.mv_names.specs.declared.scope.Field.{Field}
use Rattle.mv_names.specs.declared.scope.Binding.{Binding}
use Rattle.mv_names.specs.declared.scope.Binding.TheVariants.{Fixed, Variable, Rows, Turn}
use Rattle.mv_names.specs.declared.scope.Entry.{Entry}
use Rattle.mv_names.specs.First.{wrong}
use Rattle.mv_names.specs.Named.{Text, place_named}
use Rattle.mv_names.specs.Scope.{entry_of, type_of_value}
use Rattle.mv_names.specs.Typing as names
use Rattle.mv_names.specs.Typing.{Judged, Judges, judged, clash, in_place, misfit, read_type, read_faults, of_turn_type, of_turn_faults, turn_type, turn_faults, field_named, field_type, missing_field, left_wants, right_wants}
use Rattle.mv_resolve.specs.declared.slot.NamedSlot.{NamedSlot}
use Rattle.mv_catalog.specs.declared.resolved.RExpr.{RExpr}
use Rattle.mv_catalog.specs.declared.resolved.RExprKind.{RExprKind}
use Rattle.mv_catalog.specs.declared.resolved.RExprKind.TheOpen as open'
use Rattle.mv_catalog.specs.declared.resolved.RExprKind.TheVariants as variant
use Rattle.mv_catalog.specs.declared.resolved.RExprKind.TheVariants.{rolls-Const, rolls-Var, rolls-Field, rolls-Col, rolls-One, rolls-Two}
use Rattle.mv_resolve.specs.Building as build
use Rattle.mv_resolve.specs.Building.{Builds, expr_of, slot_named, number_in, fields_in, small}
use Rattle.mv_catalog.specs.Types.{Kind, int, text, Var, fixed, declared, turn, Vars, kind_of_value, HasType, read, field}
use Rattle.mv_catalog.specs.Types as types
use Rattle.mv_resolve.proofs.Lists.{nothing_left, nothing_right, not_when, small_is}
use Rattle.mv_resolve.proofs.Scopes.{known, SameFields, Means, Same, Matches, kinds_in, column_typed, field_typed}
use Rattle.mv_catalog.proofs.Typed.{typed}

-- what is judged without faults has the type in the program
abbrev pub Claim : Judges → Builds RExpr → Type 0
Claim judges builds = (scope : List Entry) (slots : List NamedSlot) (vars : Vars) (columns : List ColDef) → Matches scope slots vars → length columns ≤ 32
    → (judges scope (Some columns)).faults ≡ [] → (t : Kind) × ((judges scope (Some columns)).type ≡ known t) × HasType vars (kinds_in columns) (builds slots columns) t

abbrev pub KindClaim : (ℕ → Judges) → Builds RExprKind → Type 0
KindClaim judges builds = (token : ℕ) → Claim (judges token) (λ slots columns. record { kind = builds slots columns })

pub value_known : (v : Value) → type_of_value v ≡ known (kind_of_value v)
value_known (value.Int z) = refl
value_known (value.Text t) = refl

-- a name that is read
variable_means : (m : Binding) (v : Var) (fs : List Text) (token : ℕ) → Means m v fs → names.reading_faults token m ≡ []
    → (t : Kind) × (names.type_of_binding m ≡ known t) × (read (Some v) ≡ Some t)
variable_means (Fixed t) (fixed k) fs token means h = (k, means, refl)
variable_means (Variable t) (declared k) fs token means h = (k, means, refl)
variable_means (Rows fields) v fs token means h = cc
variable_means (Turn fields) v fs token means h = cc
variable_means m v fs token means h = absurd means

variable_same : (e : Option Entry) (s : Option NamedSlot) (vars : Vars) (n : Name) (token : ℕ) → Same vars e s → read_faults n token e ≡ []
    → (t : Kind) × (read_type e ≡ known t) × (read (vars (number_in s)) ≡ Some t)
variable_same None s vars n token same h = cc
variable_same (Some e) None vars n token same h = absurd same
variable_same (Some e) (Some s) vars n token same h =
    let r = variable_means e.binding same.0 s.fields token same.2 h in
    (r.0, r.1, ap read same.1 ∙ r.2)

const_claim : (v : Value) → KindClaim (names.kind_step (tree.Const v)) (build.kind_step (tree.Const v))
const_claim v token scope slots vars columns m few h =
    (kind_of_value v, value_known v, typed vars (kinds_in columns) (open'.Const v) (variant.Const v) (kind_of_value v) (rolls-Const v) refl)

variable_claim : (n : Name) → KindClaim (names.kind_step (tree.Var n)) (build.kind_step (tree.Var n))
variable_claim n token scope slots vars columns m few h =
    let r = variable_same (entry_of scope n.text) (slot_named slots n.text) vars n token (m n.text) h in
    let x = build.number_of slots n in
    (r.0, r.1, typed vars (kinds_in columns) (open'.Var x) (variant.Var x) r.0 (rolls-Var x) r.2)

-- a column of a loop's row
field_by : (fields : List Field) (ks : List Kind) (fs : List Text) (n : Name) (o : Option Field) → SameFields fields ks fs → length ks ≤ 32 → field_named fields n ≡ o
    → missing_field n.token o ≡ [] → (t : Kind) × (field_type o ≡ known t) × (slice_get ks (small (place_named (λ t. t) fs n.text)) ≡ Some t)
field_by fields ks fs n None same few is h = cc
field_by fields ks fs n (Some g) same few is h =
    let r = field_typed fields ks fs n.text g same is in
    let lt : place_named (λ t. t) fs n.text < length ks = slice_get_within ks _ r.0 r.2 in
    (r.0, r.1, rw (small_is (place_named (λ t. t) fs n.text) (omega arith)) r.2)

field_means : (m : Binding) (v : Var) (fs : List Text) (n : Name) (token : ℕ) → Means m v fs → turn_faults token m n ≡ []
    → (t : Kind) × (turn_type m n ≡ known t) × (field (Some v) (small (place_named (λ t. t) fs n.text)) ≡ Some t)
field_means (Turn fields) (turn ks) fs n token means h = field_by fields ks fs n (field_named fields n) means.0 means.1 refl h
field_means (Turn fields) v fs n token means h = absurd means
field_means m v fs n token means h = cc

field_same : (e : Option Entry) (s : Option NamedSlot) (vars : Vars) (r n : Name) (token : ℕ) → Same vars e s → of_turn_faults r token e n ≡ []
    → (t : Kind) × (of_turn_type e n ≡ known t) × (field (vars (number_in s)) (small (place_named (λ t. t) (fields_in s) n.text)) ≡ Some t)
field_same None s vars r n token same h = cc
field_same (Some e) None vars r n token same h = absurd same
field_same (Some e) (Some s) vars r n token same h =
    let f = field_means e.binding same.0 s.fields n token same.2 h in
    (f.0, f.1, ap (λ v. field v (small (place_named (λ t. t) s.fields n.text))) same.1 ∙ f.2)

field_claim : (r n : Name) → KindClaim (names.kind_step (tree.Field r n)) (build.kind_step (tree.Field r n))
field_claim r n token scope slots vars columns m few h =
    let f = field_same (entry_of scope r.text) (slot_named slots r.text) vars r n token (m r.text) h in
    let x = build.number_of slots r in
    let c = build.field_place slots r n in
    (f.0, f.1, typed vars (kinds_in columns) (open'.Field x c) (variant.Field x c) f.0 (rolls-Field x c) f.2)

column_claim : (n : Name) → KindClaim (names.kind_step (tree.Col n)) (build.kind_step (tree.Col n))
column_claim n token scope slots vars columns m few h =
    let r = column_typed columns n few h in
    let c = build.column_number columns n in
    (r.0, r.1, typed vars (kinds_in columns) (open'.Col c) (variant.Col c) r.0 (rolls-Col c) r.2)

one_fits : (op : OneOp) (s : Kind) → clash (names.one_wants op) (known s) ≡ false → (t : Kind) × (names.one_gives op ≡ known t) × (types.one_gives op s ≡ Some t)
one_fits Neg int h = (int, refl, refl)
one_fits Not int h = (int, refl, refl)
one_fits TextOf int h = (text, refl, refl)
one_fits op text h = cc

-- the two sides of an operator
abbrev Fitting : TwoOp → Kind → Kind → Type 0
Fitting op l r = (t : Kind) × (names.two_gives op ≡ known t) × (types.two_gives op l r ≡ Some t)

two_fits : (op : TwoOp) (l r : Kind) → clash (left_wants op) (known l) ≡ false → clash (right_wants op (known l)) (known r) ≡ false → Fitting op l r
two_fits Add int int h k = (int, refl, refl)
two_fits Sub int int h k = (int, refl, refl)
two_fits Mul int int h k = (int, refl, refl)
two_fits Div int int h k = (int, refl, refl)
two_fits Rem int int h k = (int, refl, refl)
two_fits Join text text h k = (text, refl, refl)
two_fits (Compare op) int int h k = (int, refl, refl)
two_fits (Compare op) text text h k = (int, refl, refl)
two_fits And int int h k = (int, refl, refl)
two_fits Or int int h k = (int, refl, refl)
two_fits Left text int h k = (text, refl, refl)
two_fits Contains text text h k = (int, refl, refl)
two_fits op l r h k = cc

-- a part in a place that wants a type
pub in_its_place : (place : ValueType) (j : Judged) (t : Kind) → j.type ≡ known t → in_place place j ≡ [] → clash place (known t) ≡ false
in_its_place place j t is h =
    subst (λ u. clash place u ≡ false) is (not_when (clash place j.type) (wrong j.token) (nothing_right j.faults (misfit place j.token j.type) h))

one_claim : (op : OneOp) (ja : Judges) (ba : Builds RExpr) → Claim ja ba → KindClaim (names.kind_step (tree.One op ja)) (build.kind_step (tree.One op ba))
one_claim op ja ba ca token scope slots vars columns m few h =
    let j : Judged = ja scope (Some columns) in
    let a = ca scope slots vars columns m few (nothing_left j.faults (misfit (names.one_wants op) j.token j.type) h) in
    let f = one_fits op a.0 (in_its_place (names.one_wants op) j a.0 a.1 h) in
    let e = ba slots columns in
    (f.0, f.1, typed vars (kinds_in columns) (open'.One op e) (variant.One op e) f.0 (rolls-One op e) (a.0, a.2, f.2))

two_claim : (op : TwoOp) (ja jb : Judges) (ba bb : Builds RExpr) → Claim ja ba → Claim jb bb → KindClaim (names.kind_step (tree.Two op ja jb)) (build.kind_step (tree.Two op ba bb))
two_claim op ja jb ba bb ca cb token scope slots vars columns m few h =
    let i : Judged = ja scope (Some columns) in
    let j : Judged = jb scope (Some columns) in
    let hi : in_place (left_wants op) i ≡ [] = nothing_left (in_place (left_wants op) i) (in_place (right_wants op i.type) j) h in
    let hj : in_place (right_wants op i.type) j ≡ [] = nothing_right (in_place (left_wants op) i) (in_place (right_wants op i.type) j) h in
    let a = ca scope slots vars columns m few (nothing_left i.faults (misfit (left_wants op) i.token i.type) hi) in
    let b = cb scope slots vars columns m few (nothing_left j.faults (misfit (right_wants op i.type) j.token j.type) hj) in
    let right : clash (right_wants op (known a.0)) (known b.0) ≡ false = subst (λ u. clash (right_wants op u) (known b.0) ≡ false) a.1 (in_its_place (right_wants op i.type) j b.0 b.1 hj) in
    let f = two_fits op a.0 b.0 (in_its_place (left_wants op) i a.0 a.1 hi) right in
    let d = ba slots columns in
    let e = bb slots columns in
    (f.0, f.1, typed vars (kinds_in columns) (open'.Two op d e) (variant.Two op d e) f.0 (rolls-Two op d e) (a.0, b.0, a.2, b.2, f.2))

-- the same of whole expressions
judged_kind : ExprKind → ℕ → Judges
judged_kind = fold-ExprKind (ℕ → Judges) Judges names.kind_step names.expr_step

kind_of : ExprKind → Builds RExprKind
kind_of = fold-ExprKind (Builds RExprKind) (Builds RExpr) build.kind_step build.expr_step

abbrev Kinds : Type 0
Kinds = (k : ExprKind) × KindClaim (judged_kind k) (kind_of k)

abbrev Exprs : Type 0
Exprs = (e : Expr) × Claim (judged e) (expr_of e)

kind_claim : (y : ExprKind-F Kinds Exprs) → let d = map-ExprKind Kinds Exprs ExprKind Expr (λ p. p.0) (λ p. p.0) y in
    KindClaim (names.kind_step (map-ExprKind ExprKind Expr (ℕ → Judges) Judges judged_kind judged d)) (build.kind_step (map-ExprKind ExprKind Expr (Builds RExprKind) (Builds RExpr) kind_of expr_of d))
kind_claim (tree.Const v) = const_claim v
kind_claim (tree.Var n) = variable_claim n
kind_claim (tree.Field r n) = field_claim r n
kind_claim (tree.Col n) = column_claim n
kind_claim (tree.One op a) = one_claim op (judged a.0) (expr_of a.0) a.1
kind_claim (tree.Two op a b) = two_claim op (judged a.0) (judged b.0) (expr_of a.0) (expr_of b.0) a.1 b.1

kind_rolled : (x : ExprKind-F ExprKind Expr) (y : ExprKind-F Kinds Exprs) → map-ExprKind Kinds Exprs ExprKind Expr (λ p. p.0) (λ p. p.0) y ≡ x
    → KindClaim (judged_kind (roll-ExprKind x)) (kind_of (roll-ExprKind x))
unfolding judged_kind kind_of
kind_rolled x y is =
    let d = map-ExprKind Kinds Exprs ExprKind Expr (λ p. p.0) (λ p. p.0) y in
    subst (λ z. KindClaim (judged_kind (roll-ExprKind z)) (kind_of (roll-ExprKind z))) is
    (subst₂ KindClaim (sym (fold-roll-ExprKind (ℕ → Judges) Judges names.kind_step names.expr_step d))
    (sym (fold-roll-ExprKind (Builds RExprKind) (Builds RExpr) build.kind_step build.expr_step d)) (kind_claim y))

expr_rolled : (x : Expr-F ExprKind Expr) (y : Expr-F Kinds Exprs) → map-Expr Kinds Exprs ExprKind Expr (λ p. p.0) (λ p. p.0) y ≡ x
    → Claim (judged (roll-Expr x)) (expr_of (roll-Expr x))
unfolding judged_kind kind_of
expr_rolled x y is =
    let d = map-Expr Kinds Exprs ExprKind Expr (λ p. p.0) (λ p. p.0) y in
    subst (λ z. Claim (judged (roll-Expr z)) (expr_of (roll-Expr z))) is
    (subst₂ Claim (sym (fold-roll-Expr (ℕ → Judges) Judges names.kind_step names.expr_step d))
    (sym (fold-roll-Expr (Builds RExprKind) (Builds RExpr) build.kind_step build.expr_step d)) (y.kind.1 y.token))

pub expr_claim : (e : Expr) → Claim (judged e) (expr_of e)
expr_claim = ind-Expr (λ k. KindClaim (judged_kind k) (kind_of k)) (λ e. Claim (judged e) (expr_of e)) kind_rolled expr_rolled
