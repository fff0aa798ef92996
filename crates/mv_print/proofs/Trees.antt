-- Pieces of expressions and statements that are written part by part.
use Rattle.std.proofs.Common.{◌≡◌, ◌≤◌, ℕ, Bool, List, [], ◌∷◌, ◌++◌, map, length, take, drop, get_or, sym, ap, ◌∙◌, ◌-◌, arith, length-drop}
use Rattle.std.proofs.lemmas.List.{take_all}
use Rattle.mv_values.specs.declared.value.Value.{Value}
use Rattle.mv_ast.specs.declared.lexeme.Terminal.{Terminal}
use Rattle.mv_ast.specs.declared.lexeme.Terminal.TheVariants as word
use Rattle.mv_ast.specs.declared.tree.Cond.{Cond}
use Rattle.mv_ast.specs.declared.tree.Expr.{Expr, out-Expr, fold_out-Expr}
use Rattle.mv_ast.specs.declared.tree.ExprKind.{ExprKind}
use Rattle.mv_ast.specs.declared.tree.ExprKind.TheFolds.{fold-ExprKind, fold-roll-ExprKind}
use Rattle.mv_ast.specs.declared.tree.ExprKind.TheOpen as open-kind
use Rattle.mv_ast.specs.declared.tree.ExprKind.TheVariants.{Const, Var, Field, Col, One, Two, rolls-Const, rolls-Var, rolls-Field, rolls-Col, rolls-One, rolls-Two}
use Rattle.mv_ast.specs.declared.tree.Name.{Name}
use Rattle.mv_ast.specs.declared.tree.OneOp.{OneOp}
use Rattle.mv_ast.specs.declared.tree.Sort.{Sort}
use Rattle.mv_ast.specs.declared.tree.Stmt.{Stmt}
use Rattle.mv_ast.specs.declared.tree.Stmt.TheFolds.{fold-roll-Stmt}
use Rattle.mv_ast.specs.declared.tree.Stmt.TheOpen as open-statement
use Rattle.mv_ast.specs.declared.tree.Stmt.TheVariants.{ForSelect, ForRows, Branch, rolls-ForSelect, rolls-ForRows, rolls-Branch}
use Rattle.mv_ast.specs.declared.tree.TwoOp.{TwoOp}
use Rattle.mv_ast.specs.Limits.{together}
use Rattle.mv_print.specs.Printing.{Piece, Leveled, key, line_end, name_piece, variable_piece, value_pieces, put, written, kind_step, expr_step, expr_pieces, whole_expr, one_lead, one_level, one_tail, one_pieces, two_lead, two_middle, two_tail, two_pieces, left_level, right_level, query_pieces, else_lead, separated, statement_step, statement_pieces, statements_pieces}
use Rattle.mv_print.proofs.Writing.{written_joined, else_mapped}

-- pieces behind pieces, and behind one piece
pub follow : (old middle new : List ℕ) (ps qs : List Piece) → middle ≡ written old ps → new ≡ written middle qs → new ≡ written old (ps ++ qs)
follow old middle new ps qs h i = i ∙ (ap (λ t. written t qs) h ∙ sym (written_joined old ps qs))

pub follow_one : (old middle new : List ℕ) (p : Piece) (qs : List Piece) → middle ≡ put old p → new ≡ written middle qs → new ≡ written old (p ∷ qs)
unfolding written
follow_one old middle new p qs h i = i ∙ ap (λ t. written t qs) h

pub kind_pieces : ExprKind → Leveled
kind_pieces = fold-ExprKind Leveled Leveled kind_step expr_step

pub of_kind : (e : Expr) (k : ExprKind) → (out-Expr e).kind ≡ k → expr_pieces e ≡ kind_pieces k
unfolding kind_pieces
of_kind e k h = fold_out-Expr Leveled Leveled kind_step expr_step e ∙ ap (fold-ExprKind Leveled Leveled kind_step expr_step) h

pub of_const : (v : Value) (n : ℕ) → kind_pieces (Const v) n ≡ value_pieces v
unfolding kind_pieces
of_const v n = ap (λ k. fold-ExprKind Leveled Leveled kind_step expr_step k n) (sym (rolls-Const v)) ∙ ap (λ f. f n) (fold-roll-ExprKind Leveled Leveled kind_step expr_step (open-kind.Const v))

pub of_var : (x : Name) (n : ℕ) → kind_pieces (Var x) n ≡ variable_piece x ∷ []
unfolding kind_pieces
of_var x n = ap (λ k. fold-ExprKind Leveled Leveled kind_step expr_step k n) (sym (rolls-Var x)) ∙ ap (λ f. f n) (fold-roll-ExprKind Leveled Leveled kind_step expr_step (open-kind.Var x))

pub of_field : (x c : Name) (n : ℕ) → kind_pieces (Field x c) n ≡ variable_piece x ∷ key word.Dot ∷ name_piece c ∷ []
unfolding kind_pieces
of_field x c n = ap (λ k. fold-ExprKind Leveled Leveled kind_step expr_step k n) (sym (rolls-Field x c)) ∙ ap (λ f. f n) (fold-roll-ExprKind Leveled Leveled kind_step expr_step (open-kind.Field x c))

pub of_col : (c : Name) (n : ℕ) → kind_pieces (Col c) n ≡ name_piece c ∷ []
unfolding kind_pieces
of_col c n = ap (λ k. fold-ExprKind Leveled Leveled kind_step expr_step k n) (sym (rolls-Col c)) ∙ ap (λ f. f n) (fold-roll-ExprKind Leveled Leveled kind_step expr_step (open-kind.Col c))

pub of_one : (op : OneOp) (a : Expr) → kind_pieces (One op a) ≡ one_pieces op (expr_pieces a)
unfolding kind_pieces
of_one op a = ap (fold-ExprKind Leveled Leveled kind_step expr_step) (sym (rolls-One op a)) ∙ fold-roll-ExprKind Leveled Leveled kind_step expr_step (open-kind.One op a)

pub of_two : (op : TwoOp) (a b : Expr) → kind_pieces (Two op a b) ≡ two_pieces op (expr_pieces a) (expr_pieces b)
unfolding kind_pieces
of_two op a b = ap (fold-ExprKind Leveled Leveled kind_step expr_step) (sym (rolls-Two op a b)) ∙ fold-roll-ExprKind Leveled Leveled kind_step expr_step (open-kind.Two op a b)

pub one_written : (e : Expr) (op : OneOp) (a : Expr) (n : ℕ) (t0 t1 t2 new : List ℕ) → (out-Expr e).kind ≡ One op a
    → t1 ≡ written t0 (one_lead op n) → t2 ≡ written t1 (expr_pieces a (one_level op)) → new ≡ written t2 (one_tail op n) → new ≡ written t0 (expr_pieces e n)
one_written e op a n t0 t1 t2 new is h1 h2 h3 =
    follow t0 t1 new (one_lead op n) (expr_pieces a (one_level op) ++ one_tail op n) h1 (follow t1 t2 new (expr_pieces a (one_level op)) (one_tail op n) h2 h3)
    ∙ ap (λ f. written t0 (f n)) (sym (of_kind e (One op a) is ∙ of_one op a))

pub two_written : (e : Expr) (op : TwoOp) (a b : Expr) (n : ℕ) (t0 t1 t2 t3 t4 new : List ℕ) → (out-Expr e).kind ≡ Two op a b
    → t1 ≡ written t0 (two_lead op n) → t2 ≡ written t1 (expr_pieces a (left_level op)) → t3 ≡ put t2 (key (two_middle op))
    → t4 ≡ written t3 (expr_pieces b (right_level op)) → new ≡ written t4 (two_tail op n) → new ≡ written t0 (expr_pieces e n)
two_written e op a b n t0 t1 t2 t3 t4 new is h1 h2 h3 h4 h5 =
    let e4 = follow t3 t4 new (expr_pieces b (right_level op)) (two_tail op n) h4 h5 in
    let e3 = follow_one t2 t3 new (key (two_middle op)) (expr_pieces b (right_level op) ++ two_tail op n) h3 e4 in
    let e2 = follow t1 t2 new (expr_pieces a (left_level op)) (key (two_middle op) ∷ (expr_pieces b (right_level op) ++ two_tail op n)) h2 e3 in
    follow t0 t1 new (two_lead op n) (expr_pieces a (left_level op) ++ key (two_middle op) ∷ (expr_pieces b (right_level op) ++ two_tail op n)) h1 e2
    ∙ ap (λ f. written t0 (f n)) (sym (of_kind e (Two op a b) is ∙ of_two op a b))

-- what loops and IFs end with
abbrev pub ending : List Piece
ending = key word.End ∷ key word.For ∷ line_end ∷ []

abbrev pub if_ending : List Piece
if_ending = key word.End ∷ key word.If ∷ line_end ∷ []

pub of_rows : (token : ℕ) (row rows : Name) (body : List Stmt) → statement_pieces (ForRows token row rows body)
    ≡ key word.For ∷ variable_piece row ∷ key word.In ∷ variable_piece rows ∷ key word.Do ∷ (statements_pieces body ++ ending)
of_rows token row rows body = ap statement_pieces (sym (rolls-ForRows token row rows body)) ∙ fold-roll-Stmt (List Piece) statement_step (open-statement.ForRows token row rows body)

pub of_select : (token : ℕ) (row : Name) (distinct : Bool) (columns : List Name) (table : Name) (conds : List Cond) (sorts : List Sort) (body : List Stmt)
    → statement_pieces (ForSelect token row distinct columns table conds sorts body)
    ≡ key word.For ∷ variable_piece row ∷ key word.In ∷ (query_pieces distinct columns table conds sorts ++ key word.Do ∷ (statements_pieces body ++ ending))
of_select token row distinct columns table conds sorts body =
    ap statement_pieces (sym (rolls-ForSelect token row distinct columns table conds sorts body))
    ∙ fold-roll-Stmt (List Piece) statement_step (open-statement.ForSelect token row distinct columns table conds sorts body)

pub of_branch : (token : ℕ) (test : Expr) (ys ns : List Stmt) → statement_pieces (Branch token test ys ns)
    ≡ key word.If ∷ (whole_expr test ++ key word.Then ∷ (statements_pieces ys ++ (else_lead ns ++ (statements_pieces ns ++ if_ending))))
of_branch token test ys ns =
    ap statement_pieces (sym (rolls-Branch token test ys ns)) ∙ (fold-roll-Stmt (List Piece) statement_step (open-statement.Branch token test ys ns)
    ∙ ap (λ l. key word.If ∷ (whole_expr test ++ key word.Then ∷ (statements_pieces ys ++ (l ++ (statements_pieces ns ++ if_ending))))) (else_mapped statement_pieces ns))

pub rows_written : (token : ℕ) (row rows : Name) (body : List Stmt) (t0 t1 t2 t3 t4 new : List ℕ) → t1 ≡ written t0 (key word.For ∷ variable_piece row ∷ key word.In ∷ []) → t2 ≡ put t1 (variable_piece rows)
    → t3 ≡ put t2 (key word.Do) → t4 ≡ written t3 (statements_pieces body) → new ≡ written t4 ending → new ≡ written t0 (statement_pieces (ForRows token row rows body))
rows_written token row rows body t0 t1 t2 t3 t4 new h1 h2 h3 h4 h5 =
    let e4 = follow t3 t4 new (statements_pieces body) ending h4 h5 in
    let e3 = follow_one t2 t3 new (key word.Do) (statements_pieces body ++ ending) h3 e4 in
    let e2 = follow_one t1 t2 new (variable_piece rows) (key word.Do ∷ (statements_pieces body ++ ending)) h2 e3 in
    follow t0 t1 new (key word.For ∷ variable_piece row ∷ key word.In ∷ []) (variable_piece rows ∷ key word.Do ∷ (statements_pieces body ++ ending)) h1 e2
    ∙ ap (written t0) (sym (of_rows token row rows body))

pub select_written : (token : ℕ) (row : Name) (distinct : Bool) (columns : List Name) (table : Name) (conds : List Cond) (sorts : List Sort) (body : List Stmt) (t0 t1 t2 t3 t4 new : List ℕ)
    → t1 ≡ written t0 (key word.For ∷ variable_piece row ∷ key word.In ∷ []) → t2 ≡ written t1 (query_pieces distinct columns table conds sorts)
    → t3 ≡ put t2 (key word.Do) → t4 ≡ written t3 (statements_pieces body) → new ≡ written t4 ending → new ≡ written t0 (statement_pieces (ForSelect token row distinct columns table conds sorts body))
select_written token row distinct columns table conds sorts body t0 t1 t2 t3 t4 new h1 h2 h3 h4 h5 =
    let e4 = follow t3 t4 new (statements_pieces body) ending h4 h5 in
    let e3 = follow_one t2 t3 new (key word.Do) (statements_pieces body ++ ending) h3 e4 in
    let e2 = follow t1 t2 new (query_pieces distinct columns table conds sorts) (key word.Do ∷ (statements_pieces body ++ ending)) h2 e3 in
    follow t0 t1 new (key word.For ∷ variable_piece row ∷ key word.In ∷ []) (query_pieces distinct columns table conds sorts ++ key word.Do ∷ (statements_pieces body ++ ending)) h1 e2
    ∙ ap (written t0) (sym (of_select token row distinct columns table conds sorts body))

pub branch_written : (token : ℕ) (test : Expr) (ys ns : List Stmt) (t0 t1 t2 t3 t4 t5 t6 new : List ℕ) → t1 ≡ put t0 (key word.If) → t2 ≡ written t1 (whole_expr test) → t3 ≡ put t2 (key word.Then)
    → t4 ≡ written t3 (statements_pieces ys) → t5 ≡ written t4 (else_lead ns) → t6 ≡ written t5 (statements_pieces ns) → new ≡ written t6 if_ending
    → new ≡ written t0 (statement_pieces (Branch token test ys ns))
branch_written token test ys ns t0 t1 t2 t3 t4 t5 t6 new h1 h2 h3 h4 h5 h6 h7 =
    let no = statements_pieces ns ++ if_ending in
    let rest = statements_pieces ys ++ (else_lead ns ++ no) in
    let e6 = follow t5 t6 new (statements_pieces ns) if_ending h6 h7 in
    let e5 = follow t4 t5 new (else_lead ns) no h5 e6 in
    let e4 = follow t3 t4 new (statements_pieces ys) (else_lead ns ++ no) h4 e5 in
    let e3 = follow_one t2 t3 new (key word.Then) rest h3 e4 in
    let e2 = follow t1 t2 new (whole_expr test) (key word.Then ∷ rest) h2 e3 in
    follow_one t0 t1 new (key word.If) (whole_expr test ++ key word.Then ∷ rest) h1 e2 ∙ ap (written t0) (sym (of_branch token test ys ns))

-- the first item, and then the others behind marks
first_written : {A : Type 0} (mark : Terminal) (f : A → List Piece) (x : A) (xs : List A) (t0 t1 new : List ℕ) → t1 ≡ written t0 (f x)
    → new ≡ written t1 (together (map (λ y. key mark ∷ f y) xs)) → new ≡ written t0 (separated mark f (x ∷ xs))
first_written mark f x xs t0 t1 new h i = follow t0 t1 new (f x) (together (map (λ y. key mark ∷ f y) xs)) h i

behind_first : {A : Type 0} (mark : Terminal) (f : A → List Piece) (xs : List A) (x : A) (t0 t1 new : List ℕ) → 1 ≤ length xs → x ≡ get_or xs 0 x → t1 ≡ written t0 (f x)
    → new ≡ written t1 (together (map (λ y. key mark ∷ f y) (drop 1 xs))) → new ≡ written t0 (separated mark f xs)
behind_first mark f [] x t0 t1 new n is h i = absurd (omega arith)
behind_first mark f (y ∷ ys) x t0 t1 new n is h i = first_written mark f y ys t0 t1 new (h ∙ ap (λ z. written t0 (f z)) is) i

pub separated_written : {A : Type 0} (mark : Terminal) (f : A → List Piece) (xs : List A) (x : A) (t0 t1 new : List ℕ) → 1 ≤ length xs → x ≡ get_or xs 0 x → t1 ≡ written t0 (f x)
    → new ≡ written t1 (together (map (λ y. key mark ∷ f y) (take (length xs - 1) (drop 1 xs)))) → new ≡ written t0 (separated mark f xs)
separated_written mark f xs x t0 t1 new n is h i =
    let w : take (length xs - 1) (drop 1 xs) ≡ drop 1 xs = take_all (length xs - 1) (drop 1 xs) (omega (arith, length-drop 1 xs)) in
    behind_first mark f xs x t0 t1 new n is h (i ∙ ap (λ r. written t1 (together (map (λ y. key mark ∷ f y) r))) w)
