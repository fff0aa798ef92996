-- Expressions have the same value where what they name has.
use Rattle.std.proofs.Common.{◌≡◌, ℕ, List, [], ◌∷◌, Option, Some, None, Ok, refl, sym, ap, subst, ◌∙◌}
use Rattle.std.specs.List.{flat_map}
use Rattle.std.specs.Prelude.{option_to_list}
use Rattle.mv_recorded.proofs.Inverting.{each_both}
use Rattle.mv_values.specs.declared.value.Value.{Value}
use Rattle.mv_values.specs.declared.schema.Column.{Column}
use Rattle.mv_values.specs.Columns.{column_of}
use Rattle.mv_catalog.specs.declared.resolved.RExpr.{RExpr, RExpr-F, roll-RExpr, map-RExpr, fold-roll-RExpr, ind-RExpr}
use Rattle.mv_catalog.specs.declared.resolved.RExprKind.{RExprKind}
use Rattle.mv_catalog.specs.declared.resolved.RExprKind.TheFolds.{map-RExprKind, fold-RExprKind, fold-roll-RExprKind}
use Rattle.mv_catalog.specs.declared.resolved.RExprKind.TheViews.{roll-RExprKind}
use Rattle.mv_catalog.specs.declared.resolved.RExprKind.TheOpen.{RExprKind-F}
use Rattle.mv_catalog.specs.declared.resolved.RExprKind.TheOpen as kind
use Rattle.mv_catalog.specs.declared.resolved.RCond.{RCond}
use Rattle.mv_eval.specs.declared.state.Env.{Env}
use Rattle.mv_eval.specs.Results.{then_do}
use Rattle.mv_eval.specs.Env.{held_at, scalar_in, turn_in}
use Rattle.mv_eval.specs.Value.{Evaluation, kind_step, expr_step, value_of, values_of, one_of, two_of}
use Rattle.mv_eval.specs.Rows.{tests_of, fit_kind, test_on}
use Rattle.mv_eval.specs.Changes.{new_row}
use Rattle.mv_eval.specs.Alone.{offset_of}
use Rattle.mv_recorded.specs.Asking.{kind_columns, columns_in}
use Rattle.mv_recorded.specs.Reading.{kind_variables, variables, rights}
use Rattle.mv_recorded.specs.Alike.{Agree, AgreeIn}

abbrev kinds_variables : RExprKind → List ℕ
kinds_variables = fold-RExprKind (List ℕ) (List ℕ) kind_variables (λ e. e.kind)

abbrev kinds_columns : RExprKind → List ℕ
kinds_columns = fold-RExprKind (List ℕ) (List ℕ) kind_columns (λ e. e.kind)

abbrev kinds_value : RExprKind → Evaluation
kinds_value = fold-RExprKind Evaluation Evaluation kind_step expr_step

abbrev Same : List ℕ → List ℕ → Evaluation → Type 0
Same xs cs m = (e f : Env) (a b : List Value) → Agree e f xs → AgreeIn a b cs → m e a ≡ m f b

abbrev KindClaim : RExprKind → Type 0
KindClaim k = Same (kinds_variables k) (kinds_columns k) (kinds_value k)

abbrev ExprClaim : RExpr → Type 0
ExprClaim x = Same (variables x) (columns_in x) (value_of x)

abbrev InnerKind : Type 0
InnerKind = (k : RExprKind) × KindClaim k

abbrev Inner : Type 0
Inner = (x : RExpr) × ExprClaim x

abbrev bare : RExprKind-F InnerKind Inner → RExprKind-F RExprKind RExpr
bare y = map-RExprKind InnerKind Inner RExprKind RExpr (λ p. p.0) (λ p. p.0) y

kind_same : (y : RExprKind-F InnerKind Inner)
    → Same (kind_variables (map-RExprKind RExprKind RExpr (List ℕ) (List ℕ) kinds_variables variables (bare y)))
    (kind_columns (map-RExprKind RExprKind RExpr (List ℕ) (List ℕ) kinds_columns columns_in (bare y)))
    (kind_step (map-RExprKind RExprKind RExpr Evaluation Evaluation kinds_value value_of (bare y)))
kind_same (kind.Const v) e f a b h k = refl
kind_same (kind.Var x) e f a b h k = ap (λ g. Ok (scalar_in g)) h.0
kind_same (kind.Field x c) e f a b h k = ap (λ g. Ok (column_of (turn_in g) c)) h.0
kind_same (kind.Col c) e f a b h k = ap Ok k.0
kind_same (kind.One op x) e f a b h k = ap (λ r. then_do r (λ v. one_of op v)) (x.1 e f a b h k)
kind_same (kind.Two op x y) e f a b h k =
    let hs = each_both (λ z. held_at e z ≡ held_at f z) (variables x.0) (variables y.0) h in
    let ks = each_both (λ c. column_of a c ≡ column_of b c) (columns_in x.0) (columns_in y.0) k in
    ap (λ r. two_of op r (value_of y.0 e a)) (x.1 e f a b hs.0 ks.0) ∙ ap (two_of op (value_of x.0 f b)) (y.1 e f a b hs.1 ks.1)

same_by : (xs ys cs ds : List ℕ) (m n : Evaluation) → xs ≡ ys → cs ≡ ds → m ≡ n → Same ys ds n → Same xs cs m
same_by xs ys cs ds m n p q r h = subst (λ xs. Same xs cs m) (sym p) (subst (λ cs. Same ys cs m) (sym q) (subst (λ m. Same ys ds m) (sym r) h))

kind_rolled : (x : RExprKind-F RExprKind RExpr) (y : RExprKind-F InnerKind Inner) → bare y ≡ x → KindClaim (roll-RExprKind x)
kind_rolled x y is =
    let d = bare y in
    subst (λ z. KindClaim (roll-RExprKind z)) is
    (same_by (kinds_variables (roll-RExprKind d)) _ (kinds_columns (roll-RExprKind d)) _ (kinds_value (roll-RExprKind d)) _ (fold-roll-RExprKind (List ℕ) (List ℕ) kind_variables (λ e. e.kind) d)
    (fold-roll-RExprKind (List ℕ) (List ℕ) kind_columns (λ e. e.kind) d) (fold-roll-RExprKind Evaluation Evaluation kind_step expr_step d) (kind_same y))

expr_rolled : (x : RExpr-F RExprKind RExpr) (y : RExpr-F InnerKind Inner) → map-RExpr InnerKind Inner RExprKind RExpr (λ p. p.0) (λ p. p.0) y ≡ x → ExprClaim (roll-RExpr x)
expr_rolled x y is =
    let d = map-RExpr InnerKind Inner RExprKind RExpr (λ p. p.0) (λ p. p.0) y in
    subst (λ z. ExprClaim (roll-RExpr z)) is
    (same_by (variables (roll-RExpr d)) _ (columns_in (roll-RExpr d)) _ (value_of (roll-RExpr d)) _ (fold-roll-RExpr (List ℕ) (List ℕ) kind_variables (λ e. e.kind) d)
    (fold-roll-RExpr (List ℕ) (List ℕ) kind_columns (λ e. e.kind) d) (fold-roll-RExpr Evaluation Evaluation kind_step expr_step d) y.kind.1)

pub value_same : (x : RExpr) → ExprClaim x
value_same = ind-RExpr KindClaim ExprClaim kind_rolled expr_rolled

-- Lists of expressions; none of them names a column where the row is empty in both

none_in : (a : List Value) (cs : List ℕ) → AgreeIn a a cs
none_in a [] = tt
none_in a (c ∷ cs) = (refl, none_in a cs)

pub value_alike : (x : RExpr) (e f : Env) (a : List Value) → Agree e f (variables x) → value_of x e a ≡ value_of x f a
value_alike x e f a h = value_same x e f a a h (none_in a (columns_in x))

pub values_alike : (xs : List RExpr) (e f : Env) → Agree e f (flat_map variables xs) → values_of xs e ≡ values_of xs f
values_alike [] e f h = refl
values_alike (x ∷ xs) e f h =
    let hs = each_both (λ z. held_at e z ≡ held_at f z) (variables x) (flat_map variables xs) h in
    ap (λ r. then_do r (λ v. then_do (values_of xs e) (λ vs. Ok (v ∷ vs)))) (value_alike x e f [] hs.0)
    ∙ ap (λ r. then_do (value_of x f []) (λ v. then_do r (λ vs. Ok (v ∷ vs)))) (values_alike xs e f hs.1)

pub tests_alike : (keys : List ℕ) (cs : List RCond) (e f : Env) → Agree e f (flat_map variables (rights cs)) → tests_of keys cs e ≡ tests_of keys cs f
tests_alike keys [] e f h = refl
tests_alike keys (c ∷ cs) e f h =
    let hs = each_both (λ z. held_at e z ≡ held_at f z) (variables c.right) (flat_map variables (rights cs)) h in
    ap (λ r. then_do r (λ v. then_do (tests_of keys cs e) (λ tests. Ok (test_on keys c.column c.op v ∷ tests)))) (value_alike c.right e f [] hs.0)
    ∙ ap (λ r. then_do (value_of c.right f []) (λ v. then_do r (λ tests. Ok (test_on keys c.column c.op v ∷ tests)))) (tests_alike keys cs e f hs.1)

pub offset_alike : (o : Option RExpr) (e f : Env) → Agree e f (flat_map variables (option_to_list o)) → offset_of o e ≡ offset_of o f
offset_alike None e f h = refl
offset_alike (Some x) e f h = value_alike x e f [] (each_both (λ z. held_at e z ≡ held_at f z) (variables x) [] h).0

pub new_row_alike : (columns : List Column) (xs : List RExpr) (e f : Env) → Agree e f (flat_map variables xs) → new_row columns xs e ≡ new_row columns xs f
new_row_alike [] xs e f h = refl
new_row_alike (c ∷ cs) [] e f h = refl
new_row_alike (c ∷ cs) (x ∷ xs) e f h =
    let hs = each_both (λ z. held_at e z ≡ held_at f z) (variables x) (flat_map variables xs) h in
    ap (λ r. then_do r (λ v. then_do (fit_kind c.kind v) (λ w. then_do (new_row cs xs e) (λ vs. Ok (w ∷ vs))))) (value_alike x e f [] hs.0)
    ∙ ap (λ r. then_do (value_of x f []) (λ v. then_do (fit_kind c.kind v) (λ w. then_do r (λ vs. Ok (w ∷ vs))))) (new_row_alike cs xs e f hs.1)
