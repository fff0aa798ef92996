-- The parts of an expression, and the columns in them.
use Rattle.std.proofs.Common.{◌≡◌, ◌<◌, ◌+◌, ◌++◌, ℕ, suc, All, sym, ap, subst, ◌∙◌, arith}
use Rattle.mv_catalog.specs.declared.resolved.RExpr.{RExpr, out-RExpr, fold-RExpr, fold_out-RExpr}
use Rattle.mv_catalog.specs.declared.resolved.RExprKind.{RExprKind}
use Rattle.mv_catalog.specs.declared.resolved.RExprKind.TheFolds.{fold-RExprKind, fold-roll-RExprKind}
use Rattle.mv_catalog.specs.declared.resolved.RExprKind.TheOpen as open-kind
use Rattle.mv_catalog.specs.declared.resolved.RExprKind.TheOpen.{RExprKind-F}
use Rattle.mv_catalog.specs.declared.resolved.RExprKind.TheVariants.{One, Two, rolls-One, rolls-Two}
use Rattle.mv_ast.specs.declared.tree.OneOp.{OneOp}
use Rattle.mv_ast.specs.declared.tree.TwoOp.{TwoOp}
use Rattle.mv_recorded.specs.Asking.{columns_in, kind_columns}
use Rattle.mv_effect.proofs.Columns.{all_front, all_back}

-- what is folded of an expression of a kind
of_kind : {A : Type 0} (f : RExprKind-F A A → A) (e : RExpr) (k : RExprKind) → (out-RExpr e).kind ≡ k → fold-RExpr A A f (λ e. e.kind) e ≡ fold-RExprKind A A f (λ e. e.kind) k
of_kind {A} f e k is = fold_out-RExpr A A f (λ e. e.kind) e ∙ ap (fold-RExprKind A A f (λ e. e.kind)) is

of_one : {A : Type 0} (f : RExprKind-F A A → A) (e : RExpr) (op : OneOp) (a : RExpr) → (out-RExpr e).kind ≡ One op a → fold-RExpr A A f (λ e. e.kind) e ≡ f (open-kind.One op (fold-RExpr A A f (λ e. e.kind) a))
of_one {A} f e op a is = of_kind f e (One op a) is ∙ (ap (fold-RExprKind A A f (λ e. e.kind)) (sym (rolls-One op a)) ∙ fold-roll-RExprKind A A f (λ e. e.kind) (open-kind.One op a))

of_two : {A : Type 0} (f : RExprKind-F A A → A) (e : RExpr) (op : TwoOp) (a b : RExpr) → (out-RExpr e).kind ≡ Two op a b
    → fold-RExpr A A f (λ e. e.kind) e ≡ f (open-kind.Two op (fold-RExpr A A f (λ e. e.kind) a) (fold-RExpr A A f (λ e. e.kind) b))
of_two {A} f e op a b is = of_kind f e (Two op a b) is ∙ (ap (fold-RExprKind A A f (λ e. e.kind)) (sym (rolls-Two op a b)) ∙ fold-roll-RExprKind A A f (λ e. e.kind) (open-kind.Two op a b))

-- how many parts an expression has
abbrev pub kind_parts : RExprKind-F ℕ ℕ → ℕ
kind_parts (open-kind.Const v) = 0
kind_parts (open-kind.Var x) = 0
kind_parts (open-kind.Field x c) = 0
kind_parts (open-kind.Col c) = 0
kind_parts (open-kind.One op a) = suc a
kind_parts (open-kind.Two op a b) = suc (a + b)

abbrev pub parts : RExpr → ℕ
parts = fold-RExpr ℕ ℕ kind_parts (λ e. e.kind)

pub one_smaller : (e : RExpr) (op : OneOp) (a : RExpr) → (out-RExpr e).kind ≡ One op a → parts a < parts e
one_smaller e op a is = let all : parts e ≡ suc (parts a) = of_one kind_parts e op a is in omega (arith, all)

pub left_smaller : (e : RExpr) (op : TwoOp) (a b : RExpr) → (out-RExpr e).kind ≡ Two op a b → parts a < parts e
left_smaller e op a b is = let all : parts e ≡ suc (parts a + parts b) = of_two kind_parts e op a b is in omega (arith, all)

pub right_smaller : (e : RExpr) (op : TwoOp) (a b : RExpr) → (out-RExpr e).kind ≡ Two op a b → parts b < parts e
right_smaller e op a b is = let all : parts e ≡ suc (parts a + parts b) = of_two kind_parts e op a b is in omega (arith, all)

pub one_columns : (e : RExpr) (op : OneOp) (a : RExpr) → (out-RExpr e).kind ≡ One op a → columns_in e ≡ columns_in a
one_columns e op a is = of_one kind_columns e op a is

pub two_columns : (e : RExpr) (op : TwoOp) (a b : RExpr) → (out-RExpr e).kind ≡ Two op a b → columns_in e ≡ columns_in a ++ columns_in b
two_columns e op a b is = of_two kind_columns e op a b is

-- what holds of all of them holds of those in each part
pub in_one : (P : ℕ → Type 0) (e : RExpr) (op : OneOp) (a : RExpr) → (out-RExpr e).kind ≡ One op a → All P (columns_in e) → All P (columns_in a)
in_one P e op a is h = subst (All P) (one_columns e op a is) h

pub in_left : (P : ℕ → Type 0) (e : RExpr) (op : TwoOp) (a b : RExpr) → (out-RExpr e).kind ≡ Two op a b → All P (columns_in e) → All P (columns_in a)
in_left P e op a b is h = all_front P (columns_in a) (columns_in b) (subst (All P) (two_columns e op a b is) h)

pub in_right : (P : ℕ → Type 0) (e : RExpr) (op : TwoOp) (a b : RExpr) → (out-RExpr e).kind ≡ Two op a b → All P (columns_in e) → All P (columns_in b)
in_right P e op a b is h = all_back P (columns_in a) (columns_in b) (subst (All P) (two_columns e op a b is) h)
