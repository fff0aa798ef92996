-- Lists and statements that are the same but for places pass the same limits.
use Rattle.std.proofs.Common.{◌≡◌, ℕ, suc, ◌+◌, Bool, true, false, List, [], ◌∷◌, ◌++◌, Option, Some, None, map, length, refl, sym, ap, subst, ◌∙◌, length-append, slice_get, arith}
use Rattle.std.specs.Prelude.{option_to_list}
use Rattle.std.specs.List.{filter}
use Rattle.std.specs.Option.{option_map}
use Rattle.std.proofs.lemmas.List.{map-append}
use Rattle.std.proofs.lemmas.Option.{slice_get-map}
use Rattle.mv_ast.specs.declared.limit.PassedLimit.{PassedLimit}
use Rattle.mv_ast.specs.declared.limit.Which.{Which}
use Rattle.mv_ast.specs.declared.limit.Which.TheVariants as limit
use Rattle.mv_ast.specs.declared.tree.Agg.{Agg}
use Rattle.mv_ast.specs.declared.tree.Cond.{Cond}
use Rattle.mv_ast.specs.declared.tree.Expr.{Expr}
use Rattle.mv_ast.specs.declared.tree.Arg.{Arg}
use Rattle.mv_ast.specs.declared.tree.Arg.TheVariants as argument
use Rattle.mv_ast.specs.declared.tree.Item.{Item}
use Rattle.mv_ast.specs.declared.tree.ItemKind.{ItemKind}
use Rattle.mv_ast.specs.declared.tree.ItemKind.TheVariants.{Table, Proc, Copy, Call, Journal}
use Rattle.mv_ast.specs.declared.tree.LitRow.{LitRow}
use Rattle.mv_ast.specs.declared.tree.Name.{Name}
use Rattle.mv_ast.specs.declared.tree.Param.{Param}
use Rattle.mv_ast.specs.declared.tree.ParamKind.{ParamKind}
use Rattle.mv_ast.specs.declared.tree.ParamKind.TheVariants as parameter
use Rattle.mv_ast.specs.declared.tree.Script.{Script}
use Rattle.mv_ast.specs.declared.tree.SetItem.{SetItem}
use Rattle.mv_ast.specs.declared.tree.Sort.{Sort}
use Rattle.mv_ast.specs.declared.tree.Stmt.{Stmt}
use Rattle.mv_ast.specs.declared.tree.Stmt.TheFolds.{fold-roll-Stmt, map-Stmt, ind-Stmt}
use Rattle.mv_ast.specs.declared.tree.Stmt.TheOpen as inside
use Rattle.mv_ast.specs.declared.tree.Stmt.TheOpen.{Stmt-F}
use Rattle.mv_ast.specs.declared.tree.Stmt.TheVariants as tree
use Rattle.mv_ast.specs.declared.tree.Stmt.TheViews.{roll-Stmt}
use Rattle.mv_ast.specs.Limits.{at_token, too_many, together, columns_most, name_token, column_token, param_token, declared_token, literal_token, row_token, item_token, sort_token, expr_token, set_token, row_passes, kind_passes, param_passes, argument_passes, item_passes, is_counted, passes_in, too_many_items, script_passes, statement_step, statement_passes, tokens_step, statement_tokens}
use Rattle.mv_ast.specs.Trees.{script_of}
use Rattle.mv_print.specs.Same.{placeless_name, placeless_expr, placeless_cond, placeless_sort, placeless_set, placeless_agg, placeless_statement, placeless_literal, placeless_row, placeless_column, placeless_param_kind, placeless_param, placeless_variable, placeless_argument, placeless_kind, placeless, SameButPlaces}
use Rattle.mv_print.proofs.Rules.{same2}
use Rattle.mv_print.proofs.Sentences.{bare_assign, bare_select, bare_total, bare_for_select, bare_for_rows, bare_branch, bare_insert, bare_update, bare_delete, bare_print, bare_rollback}

-- which limits are passed, wherever
abbrev pub whiches : List PassedLimit → List Which
whiches ps = map (λ p. p.which) ps

one_same : {A B : Type 0} (w : Which) (f : A → ℕ) (g : B → ℕ) (c : A → B) (o : Option A)
    → whiches (option_to_list (option_map (λ x. at_token w (f x)) o)) ≡ whiches (option_to_list (option_map (λ x. at_token w (g x)) (option_map c o)))
one_same w f g c None = refl
one_same w f g c (Some x) = refl

pub many_same : {A B : Type 0} (w : Which) (most : ℕ) (f : A → ℕ) (g : B → ℕ) (c : A → B) (xs : List A) → whiches (too_many w most f xs) ≡ whiches (too_many w most g (map c xs))
many_same w most f g c xs = one_same w f g c (slice_get xs most) ∙ ap (λ o. whiches (option_to_list (option_map (λ x. at_token w (g x)) o))) (sym (slice_get-map c xs most))

pub both_same : (ps qs rs ss : List PassedLimit) → whiches ps ≡ whiches rs → whiches qs ≡ whiches ss → whiches (ps ++ qs) ≡ whiches (rs ++ ss)
both_same ps qs rs ss h k = map-append (λ (p : PassedLimit). p.which) ps qs ∙ (same2 (λ x y. x ++ y) h k ∙ sym (map-append (λ (p : PassedLimit). p.which) rs ss))

pub together_same : {A : Type 0} (f : A → List PassedLimit) (c : A → A) → ((x : A) → whiches (f x) ≡ whiches (f (c x))) → (xs : List A) → whiches (together (map f xs)) ≡ whiches (together (map f (map c xs)))
together_same f c h [] = refl
together_same f c h (x ∷ xs) = both_same (f x) (together (map f xs)) (f (c x)) (together (map f (map c xs))) (h x) (together_same f c h xs)

-- a statement passes the limits that it passes without places, and has as many statements inside
abbrev Counted : Stmt → Type 0
Counted s = (whiches (statement_passes s) ≡ whiches (statement_passes (placeless_statement s))) × (length (statement_tokens s) ≡ length (statement_tokens (placeless_statement s)))

abbrev Known : Type 0
Known = (s : Stmt) × Counted s

abbrev bodies : List Known → List Stmt
bodies ks = map (λ k. k.0) ks

body_passes : (ks : List Known) → whiches (together (map statement_passes (bodies ks))) ≡ whiches (together (map statement_passes (map placeless_statement (bodies ks))))
body_passes [] = refl
body_passes (k ∷ ks) = both_same (statement_passes k.0) (together (map statement_passes (bodies ks))) (statement_passes (placeless_statement k.0)) (together (map statement_passes (map placeless_statement (bodies ks)))) k.1.0 (body_passes ks)

lengths : {A : Type 0} (xs ys zs ws : List A) → length xs ≡ length zs → length ys ≡ length ws → length (xs ++ ys) ≡ length (zs ++ ws)
lengths xs ys zs ws h k = length-append xs ys ∙ (same2 (λ (m n : ℕ). m + n) h k ∙ sym (length-append zs ws))

body_tokens : (ks : List Known) → length (together (map statement_tokens (bodies ks))) ≡ length (together (map statement_tokens (map placeless_statement (bodies ks))))
body_tokens [] = refl
body_tokens (k ∷ ks) = lengths (statement_tokens k.0) (together (map statement_tokens (bodies ks))) (statement_tokens (placeless_statement k.0)) (together (map statement_tokens (map placeless_statement (bodies ks)))) k.1.1 (body_tokens ks)

counted_by : (s : Stmt) (b : Stmt) (ps qs : List PassedLimit) (ts us : List ℕ) → placeless_statement s ≡ b → statement_passes s ≡ ps → statement_passes b ≡ qs → statement_tokens s ≡ ts → statement_tokens b ≡ us
    → whiches ps ≡ whiches qs → length ts ≡ length us → Counted s
counted_by s b ps qs ts us e p q t u h k =
    (ap whiches p ∙ (h ∙ sym (ap whiches (ap statement_passes e ∙ q))), ap length t ∙ (k ∙ sym (ap length (ap statement_tokens e ∙ u))))

passes_assign : (t : ℕ) (to : Name) (right : Expr) → statement_passes (tree.Assign t to right) ≡ []
passes_assign t to right = ap statement_passes (sym (tree.rolls-Assign t to right)) ∙ fold-roll-Stmt (List PassedLimit) statement_step (inside.Assign t to right)

tokens_assign : (t : ℕ) (to : Name) (right : Expr) → statement_tokens (tree.Assign t to right) ≡ t ∷ []
tokens_assign t to right = ap statement_tokens (sym (tree.rolls-Assign t to right)) ∙ fold-roll-Stmt (List ℕ) tokens_step (inside.Assign t to right)

passes_select : (t : ℕ) (columns : List Name) (to : List Name) (table : Name) (conds : List Cond) (sorts : List Sort) (offset : Option Expr) → statement_passes (tree.Select t columns to table conds sorts offset) ≡ too_many limit.Columns columns_most name_token columns ++ (too_many limit.Columns columns_most name_token to ++ too_many limit.Columns columns_most sort_token sorts)
passes_select t columns to table conds sorts offset = ap statement_passes (sym (tree.rolls-Select t columns to table conds sorts offset)) ∙ fold-roll-Stmt (List PassedLimit) statement_step (inside.Select t columns to table conds sorts offset)

tokens_select : (t : ℕ) (columns : List Name) (to : List Name) (table : Name) (conds : List Cond) (sorts : List Sort) (offset : Option Expr) → statement_tokens (tree.Select t columns to table conds sorts offset) ≡ t ∷ []
tokens_select t columns to table conds sorts offset = ap statement_tokens (sym (tree.rolls-Select t columns to table conds sorts offset)) ∙ fold-roll-Stmt (List ℕ) tokens_step (inside.Select t columns to table conds sorts offset)

passes_total : (t : ℕ) (f : Agg) (to : Name) (table : Name) (conds : List Cond) → statement_passes (tree.Total t f to table conds) ≡ []
passes_total t f to table conds = ap statement_passes (sym (tree.rolls-Total t f to table conds)) ∙ fold-roll-Stmt (List PassedLimit) statement_step (inside.Total t f to table conds)

tokens_total : (t : ℕ) (f : Agg) (to : Name) (table : Name) (conds : List Cond) → statement_tokens (tree.Total t f to table conds) ≡ t ∷ []
tokens_total t f to table conds = ap statement_tokens (sym (tree.rolls-Total t f to table conds)) ∙ fold-roll-Stmt (List ℕ) tokens_step (inside.Total t f to table conds)

passes_for_select : (t : ℕ) (row : Name) (distinct : Bool) (columns : List Name) (table : Name) (conds : List Cond) (sorts : List Sort) (body : List Stmt) → statement_passes (tree.ForSelect t row distinct columns table conds sorts body) ≡ too_many limit.Columns columns_most name_token columns ++ (too_many limit.Columns columns_most sort_token sorts ++ together (map statement_passes body))
passes_for_select t row distinct columns table conds sorts body = ap statement_passes (sym (tree.rolls-ForSelect t row distinct columns table conds sorts body)) ∙ fold-roll-Stmt (List PassedLimit) statement_step (inside.ForSelect t row distinct columns table conds sorts body)

tokens_for_select : (t : ℕ) (row : Name) (distinct : Bool) (columns : List Name) (table : Name) (conds : List Cond) (sorts : List Sort) (body : List Stmt) → statement_tokens (tree.ForSelect t row distinct columns table conds sorts body) ≡ t ∷ together (map statement_tokens body)
tokens_for_select t row distinct columns table conds sorts body = ap statement_tokens (sym (tree.rolls-ForSelect t row distinct columns table conds sorts body)) ∙ fold-roll-Stmt (List ℕ) tokens_step (inside.ForSelect t row distinct columns table conds sorts body)

passes_for_rows : (t : ℕ) (row : Name) (rows : Name) (body : List Stmt) → statement_passes (tree.ForRows t row rows body) ≡ together (map statement_passes body)
passes_for_rows t row rows body = ap statement_passes (sym (tree.rolls-ForRows t row rows body)) ∙ fold-roll-Stmt (List PassedLimit) statement_step (inside.ForRows t row rows body)

tokens_for_rows : (t : ℕ) (row : Name) (rows : Name) (body : List Stmt) → statement_tokens (tree.ForRows t row rows body) ≡ t ∷ together (map statement_tokens body)
tokens_for_rows t row rows body = ap statement_tokens (sym (tree.rolls-ForRows t row rows body)) ∙ fold-roll-Stmt (List ℕ) tokens_step (inside.ForRows t row rows body)

passes_branch : (t : ℕ) (test : Expr) (ys : List Stmt) (ns : List Stmt) → statement_passes (tree.Branch t test ys ns) ≡ together (map statement_passes ys) ++ together (map statement_passes ns)
passes_branch t test ys ns = ap statement_passes (sym (tree.rolls-Branch t test ys ns)) ∙ fold-roll-Stmt (List PassedLimit) statement_step (inside.Branch t test ys ns)

tokens_branch : (t : ℕ) (test : Expr) (ys : List Stmt) (ns : List Stmt) → statement_tokens (tree.Branch t test ys ns) ≡ t ∷ (together (map statement_tokens ys) ++ together (map statement_tokens ns))
tokens_branch t test ys ns = ap statement_tokens (sym (tree.rolls-Branch t test ys ns)) ∙ fold-roll-Stmt (List ℕ) tokens_step (inside.Branch t test ys ns)

passes_insert : (t : ℕ) (table : Name) (values : List Expr) → statement_passes (tree.Insert t table values) ≡ too_many limit.Columns columns_most expr_token values
passes_insert t table values = ap statement_passes (sym (tree.rolls-Insert t table values)) ∙ fold-roll-Stmt (List PassedLimit) statement_step (inside.Insert t table values)

tokens_insert : (t : ℕ) (table : Name) (values : List Expr) → statement_tokens (tree.Insert t table values) ≡ t ∷ []
tokens_insert t table values = ap statement_tokens (sym (tree.rolls-Insert t table values)) ∙ fold-roll-Stmt (List ℕ) tokens_step (inside.Insert t table values)

passes_update : (t : ℕ) (table : Name) (items : List SetItem) (conds : List Cond) → statement_passes (tree.Update t table items conds) ≡ too_many limit.Columns columns_most set_token items
passes_update t table items conds = ap statement_passes (sym (tree.rolls-Update t table items conds)) ∙ fold-roll-Stmt (List PassedLimit) statement_step (inside.Update t table items conds)

tokens_update : (t : ℕ) (table : Name) (items : List SetItem) (conds : List Cond) → statement_tokens (tree.Update t table items conds) ≡ t ∷ []
tokens_update t table items conds = ap statement_tokens (sym (tree.rolls-Update t table items conds)) ∙ fold-roll-Stmt (List ℕ) tokens_step (inside.Update t table items conds)

passes_delete : (t : ℕ) (table : Name) (conds : List Cond) → statement_passes (tree.Delete t table conds) ≡ []
passes_delete t table conds = ap statement_passes (sym (tree.rolls-Delete t table conds)) ∙ fold-roll-Stmt (List PassedLimit) statement_step (inside.Delete t table conds)

tokens_delete : (t : ℕ) (table : Name) (conds : List Cond) → statement_tokens (tree.Delete t table conds) ≡ t ∷ []
tokens_delete t table conds = ap statement_tokens (sym (tree.rolls-Delete t table conds)) ∙ fold-roll-Stmt (List ℕ) tokens_step (inside.Delete t table conds)

passes_print : (t : ℕ) (values : List Expr) → statement_passes (tree.Print t values) ≡ too_many limit.Columns columns_most expr_token values
passes_print t values = ap statement_passes (sym (tree.rolls-Print t values)) ∙ fold-roll-Stmt (List PassedLimit) statement_step (inside.Print t values)

tokens_print : (t : ℕ) (values : List Expr) → statement_tokens (tree.Print t values) ≡ t ∷ []
tokens_print t values = ap statement_tokens (sym (tree.rolls-Print t values)) ∙ fold-roll-Stmt (List ℕ) tokens_step (inside.Print t values)

passes_rollback : (t : ℕ) (reason : List ℕ) → statement_passes (tree.Rollback t reason) ≡ []
passes_rollback t reason = ap statement_passes (sym (tree.rolls-Rollback t reason)) ∙ fold-roll-Stmt (List PassedLimit) statement_step (inside.Rollback t reason)

tokens_rollback : (t : ℕ) (reason : List ℕ) → statement_tokens (tree.Rollback t reason) ≡ t ∷ []
tokens_rollback t reason = ap statement_tokens (sym (tree.rolls-Rollback t reason)) ∙ fold-roll-Stmt (List ℕ) tokens_step (inside.Rollback t reason)

step_counted : (y : Stmt-F Known) → Counted (roll-Stmt (map-Stmt Known Stmt (λ p. p.0) y))
step_counted (inside.Assign t to right) =
    subst Counted (sym (tree.rolls-Assign t to right)) (counted_by _ _ _ _ _ _ (bare_assign t to right) (passes_assign t to right) (passes_assign 0 (placeless_name to) (placeless_expr right)) (tokens_assign t to right) (tokens_assign 0 (placeless_name to) (placeless_expr right)) refl refl)
step_counted (inside.Select t columns to table conds sorts offset) =
    subst Counted (sym (tree.rolls-Select t columns to table conds sorts offset)) (counted_by _ _ _ _ _ _ (bare_select t columns to table conds sorts offset) (passes_select t columns to table conds sorts offset) (passes_select 0 (map placeless_name columns) (map placeless_name to) (placeless_name table) (map placeless_cond conds) (map placeless_sort sorts) (option_map placeless_expr offset)) (tokens_select t columns to table conds sorts offset) (tokens_select 0 (map placeless_name columns) (map placeless_name to) (placeless_name table) (map placeless_cond conds) (map placeless_sort sorts) (option_map placeless_expr offset)) (both_same _ _ _ _ (many_same limit.Columns columns_most name_token name_token placeless_name columns) (both_same _ _ _ _ (many_same limit.Columns columns_most name_token name_token placeless_name to) (many_same limit.Columns columns_most sort_token sort_token placeless_sort sorts))) refl)
step_counted (inside.Total t f to table conds) =
    subst Counted (sym (tree.rolls-Total t f to table conds)) (counted_by _ _ _ _ _ _ (bare_total t f to table conds) (passes_total t f to table conds) (passes_total 0 (placeless_agg f) (placeless_name to) (placeless_name table) (map placeless_cond conds)) (tokens_total t f to table conds) (tokens_total 0 (placeless_agg f) (placeless_name to) (placeless_name table) (map placeless_cond conds)) refl refl)
step_counted (inside.ForSelect t row distinct columns table conds sorts body) =
    subst Counted (sym (tree.rolls-ForSelect t row distinct columns table conds sorts (bodies body))) (counted_by _ _ _ _ _ _ (bare_for_select t row distinct columns table conds sorts (bodies body)) (passes_for_select t row distinct columns table conds sorts (bodies body)) (passes_for_select 0 (placeless_name row) distinct (map placeless_name columns) (placeless_name table) (map placeless_cond conds) (map placeless_sort sorts) (map placeless_statement (bodies body))) (tokens_for_select t row distinct columns table conds sorts (bodies body)) (tokens_for_select 0 (placeless_name row) distinct (map placeless_name columns) (placeless_name table) (map placeless_cond conds) (map placeless_sort sorts) (map placeless_statement (bodies body))) (both_same _ _ _ _ (many_same limit.Columns columns_most name_token name_token placeless_name columns) (both_same _ _ _ _ (many_same limit.Columns columns_most sort_token sort_token placeless_sort sorts) (body_passes body))) (ap suc (body_tokens body)))
step_counted (inside.ForRows t row rows body) =
    subst Counted (sym (tree.rolls-ForRows t row rows (bodies body))) (counted_by _ _ _ _ _ _ (bare_for_rows t row rows (bodies body)) (passes_for_rows t row rows (bodies body)) (passes_for_rows 0 (placeless_name row) (placeless_name rows) (map placeless_statement (bodies body))) (tokens_for_rows t row rows (bodies body)) (tokens_for_rows 0 (placeless_name row) (placeless_name rows) (map placeless_statement (bodies body))) (body_passes body) (ap suc (body_tokens body)))
step_counted (inside.Branch t test ys ns) =
    subst Counted (sym (tree.rolls-Branch t test (bodies ys) (bodies ns))) (counted_by _ _ _ _ _ _ (bare_branch t test (bodies ys) (bodies ns)) (passes_branch t test (bodies ys) (bodies ns)) (passes_branch 0 (placeless_expr test) (map placeless_statement (bodies ys)) (map placeless_statement (bodies ns))) (tokens_branch t test (bodies ys) (bodies ns)) (tokens_branch 0 (placeless_expr test) (map placeless_statement (bodies ys)) (map placeless_statement (bodies ns))) (both_same _ _ _ _ (body_passes ys) (body_passes ns)) (ap suc (lengths _ _ _ _ (body_tokens ys) (body_tokens ns))))
step_counted (inside.Insert t table values) =
    subst Counted (sym (tree.rolls-Insert t table values)) (counted_by _ _ _ _ _ _ (bare_insert t table values) (passes_insert t table values) (passes_insert 0 (placeless_name table) (map placeless_expr values)) (tokens_insert t table values) (tokens_insert 0 (placeless_name table) (map placeless_expr values)) (many_same limit.Columns columns_most expr_token expr_token placeless_expr values) refl)
step_counted (inside.Update t table items conds) =
    subst Counted (sym (tree.rolls-Update t table items conds)) (counted_by _ _ _ _ _ _ (bare_update t table items conds) (passes_update t table items conds) (passes_update 0 (placeless_name table) (map placeless_set items) (map placeless_cond conds)) (tokens_update t table items conds) (tokens_update 0 (placeless_name table) (map placeless_set items) (map placeless_cond conds)) (many_same limit.Columns columns_most set_token set_token placeless_set items) refl)
step_counted (inside.Delete t table conds) =
    subst Counted (sym (tree.rolls-Delete t table conds)) (counted_by _ _ _ _ _ _ (bare_delete t table conds) (passes_delete t table conds) (passes_delete 0 (placeless_name table) (map placeless_cond conds)) (tokens_delete t table conds) (tokens_delete 0 (placeless_name table) (map placeless_cond conds)) refl refl)
step_counted (inside.Print t values) =
    subst Counted (sym (tree.rolls-Print t values)) (counted_by _ _ _ _ _ _ (bare_print t values) (passes_print t values) (passes_print 0 (map placeless_expr values)) (tokens_print t values) (tokens_print 0 (map placeless_expr values)) (many_same limit.Columns columns_most expr_token expr_token placeless_expr values) refl)
step_counted (inside.Rollback t reason) =
    subst Counted (sym (tree.rolls-Rollback t reason)) (counted_by _ _ _ _ _ _ (bare_rollback t reason) (passes_rollback t reason) (passes_rollback 0 reason) (tokens_rollback t reason) (tokens_rollback 0 reason) refl refl)

pub counted : (s : Stmt) → Counted s
counted = ind-Stmt Counted (λ x y is. subst (λ z. Counted (roll-Stmt z)) is (step_counted y))

-- lists of the same length
units_same : {A B : Type 0} (xs : List A) (ys : List B) → length xs ≡ length ys → ◌≡◌ {A = List (Unit {0})} (map (λ x. tt) xs) (map (λ y. tt) ys)
units_same [] [] h = refl
units_same [] (y ∷ ys) h = absurd (omega (arith, h))
units_same (x ∷ xs) [] h = absurd (omega (arith, h))
units_same (x ∷ xs) (y ∷ ys) h = ap (λ r. tt ∷ r) (units_same xs ys (omega (arith, h)))

long_same : {A B : Type 0} (w : Which) (most : ℕ) (f : A → ℕ) (g : B → ℕ) (xs : List A) (ys : List B) → length xs ≡ length ys → whiches (too_many w most f xs) ≡ whiches (too_many w most g ys)
long_same w most f g xs ys h =
    many_same w most f (λ u. 0) (λ x. tt) xs ∙ (ap (λ (r : List (Unit {0})). whiches (too_many w most (λ u. 0) r)) (units_same xs ys h) ∙ sym (many_same w most g (λ u. 0) (λ y. tt) ys))

row_same : (r : LitRow) → whiches (row_passes r) ≡ whiches (row_passes (placeless_row r))
row_same r = many_same limit.Columns columns_most literal_token literal_token placeless_literal r.values

param_kind_same : (k : ParamKind) → whiches (kind_passes k) ≡ whiches (kind_passes (placeless_param_kind k))
param_kind_same (parameter.One k) = refl
param_kind_same (parameter.Many columns) = many_same limit.Columns columns_most column_token column_token placeless_column columns

param_same : (p : Param) → whiches (param_passes p) ≡ whiches (param_passes (placeless_param p))
param_same p = param_kind_same p.kind

argument_same : (a : Arg) → whiches (argument_passes a) ≡ whiches (argument_passes (placeless_argument a))
argument_same (argument.One l) = refl
argument_same (argument.Many rows) = both_same _ _ _ _ (many_same limit.Rows 1000 row_token row_token placeless_row rows.rows) (together_same row_passes placeless_row row_same rows.rows)

tokens_same : (ss : List Stmt) → length (together (map statement_tokens ss)) ≡ length (together (map statement_tokens (map placeless_statement ss)))
tokens_same [] = refl
tokens_same (s ∷ ss) = lengths _ _ _ _ (counted s).1 (tokens_same ss)

kind_same : (k : ItemKind) → whiches (item_passes k) ≡ whiches (item_passes (placeless_kind k))
kind_same (Table t) =
    both_same _ _ _ _ (many_same limit.Columns columns_most column_token column_token placeless_column t.columns)
    (both_same _ _ _ _ (many_same limit.Key 8 name_token name_token placeless_name t.key) (together_same row_passes placeless_row row_same t.rows))
kind_same (Proc p) =
    both_same _ _ _ _ (many_same limit.Parameters 16 param_token param_token placeless_param p.params)
    (both_same _ _ _ _ (many_same limit.Variables 64 declared_token declared_token placeless_variable p.vars)
    (both_same _ _ _ _ (together_same param_passes placeless_param param_same p.params)
    (both_same _ _ _ _ (together_same statement_passes placeless_statement (λ s. (counted s).0) p.body)
    (long_same limit.Statements 1000 (λ t. t) (λ t. t) _ _ (tokens_same p.body)))))
kind_same (Copy c) = refl
kind_same (Call c) = together_same argument_passes placeless_argument argument_same c.arguments
kind_same (Journal s) = refl

-- items without places
abbrev bare_item : Item → Item
bare_item i = record { token = 0; kind = placeless_kind i.kind }

-- the limits that count items
counted_kind : (k : ItemKind) → (is_counted limit.Tables k ≡ is_counted limit.Tables (placeless_kind k)) × (is_counted limit.Procedures k ≡ is_counted limit.Procedures (placeless_kind k)) × (is_counted limit.Calls k ≡ is_counted limit.Calls (placeless_kind k))
counted_kind (Table t) = (refl, refl, refl)
counted_kind (Proc p) = (refl, refl, refl)
counted_kind (Copy c) = (refl, refl, refl)
counted_kind (Call c) = (refl, refl, refl)
counted_kind (Journal s) = (refl, refl, refl)

kept_same : (p : Item → Bool) → ((i : Item) → p i ≡ p (bare_item i)) → (is : List Item) → map bare_item (filter p is) ≡ filter p (map bare_item is)
kept_same p h [] = refl
kept_same p h (i ∷ is) = go (p i) refl (kept_same p h is)
  where
    go : (b : Bool) → p i ≡ b → map bare_item (filter p is) ≡ filter p (map bare_item is) → map bare_item (filter p (i ∷ is)) ≡ filter p (map bare_item (i ∷ is))
    go true e r = let f = sym (h i) ∙ e in rw (e, f) (ap (λ z. bare_item i ∷ z) r)
    go false e r = let f = sym (h i) ∙ e in rw (e, f) r

items_same : (w : Which) (most : ℕ) → ((i : Item) → is_counted w i.kind ≡ is_counted w (placeless_kind i.kind)) → (is : List Item) → whiches (too_many_items w most is) ≡ whiches (too_many_items w most (map bare_item is))
items_same w most h is =
    many_same w most item_token item_token bare_item (filter (λ i. is_counted w i.kind) is) ∙ ap (λ r. whiches (too_many w most item_token r)) (kept_same (λ i. is_counted w i.kind) h is)

script_same : (is : List Item) → whiches (script_passes (script_of is)) ≡ whiches (script_passes (script_of (map bare_item is)))
script_same is =
    both_same _ _ _ _ (items_same limit.Tables 64 (λ i. (counted_kind i.kind).0) is) (both_same _ _ _ _ (items_same limit.Procedures 256 (λ i. (counted_kind i.kind).1) is)
    (both_same _ _ _ _ (items_same limit.Calls 1000000 (λ i. (counted_kind i.kind).2) is) (together_same passes_in bare_item (λ i. kind_same i.kind) is)))

-- the items without places, from what is compared
bare_of : (bytes : List ℕ) (is : List Item) → map (λ (p : ItemKind × List ℕ). (let x : Item = record { token = 0; kind = p.0 } in x)) (map (placeless bytes) is) ≡ map bare_item is
bare_of bytes [] = refl
bare_of bytes (i ∷ is) = ap (λ r. bare_item i ∷ r) (bare_of bytes is)

none_passed : (ps : List PassedLimit) → whiches ps ≡ [] → ps ≡ []
none_passed [] h = refl
none_passed (p ∷ ps) h = cc

-- a script that is the same but for places passes no limit of its lists where the other passes none
pub passes_back : (bytes text : List ℕ) (s t : Script) → SameButPlaces bytes s text t → script_passes s ≡ [] → script_passes t ≡ []
passes_back bytes text s t e h =
    let same : map bare_item t.items ≡ map bare_item s.items =
    sym (bare_of text t.items) ∙ (ap (map (λ (p : ItemKind × List ℕ). (let x : Item = record { token = 0; kind = p.0 } in x))) (sym e) ∙ bare_of bytes s.items) in
    none_passed (script_passes t) (script_same t.items ∙ (ap (λ r. whiches (script_passes (script_of r))) same ∙ (sym (script_same s.items) ∙ ap whiches h)))
