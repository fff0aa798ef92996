-- An expression is read at each level from its pieces there, if it is at its own.
use Rattle.std.proofs.Common.{◌≡◌, ◌⊎◌, ℕ, zero, suc, ◌+◌, ◌-◌, ◌≤◌, Bool, true, false, nat_lt, List, [], ◌∷◌, ◌++◌, None, refl, sym, ap, subst, ◌∙◌, append-nil, arith, inl, inr}
use Rattle.std.proofs.lemmas.Bool.{ltb-false, le-ltb}
use Rattle.mv_ast.specs.declared.lexeme.Lexeme.{Lexeme}
use Rattle.mv_ast.specs.declared.lexeme.Terminal.TheVariants as word
use Rattle.mv_ast.specs.declared.tree.Expr.{Expr, out-Expr, fold_out-Expr}
use Rattle.mv_ast.specs.declared.tree.ExprKind.{ExprKind}
use Rattle.mv_ast.specs.declared.tree.ExprKind.TheFolds.{fold-ExprKind, fold-roll-ExprKind}
use Rattle.mv_ast.specs.declared.tree.ExprKind.TheOpen as open-kind
use Rattle.mv_ast.specs.declared.tree.ExprKind.TheVariants.{Var, Field, Col, One, Two, rolls-Var, rolls-Field, rolls-Col, rolls-One, rolls-Two}
use Rattle.mv_ast.specs.declared.tree.Name.{Name}
use Rattle.mv_ast.specs.declared.tree.OneOp.{OneOp}
use Rattle.mv_ast.specs.declared.tree.TwoOp.{TwoOp}
use Rattle.mv_ast.specs.Parts.{Part, expression, Is}
use Rattle.mv_ast.specs.Trees.{leaf, parenthesized}
use Rattle.mv_ast.specs.Grammar.{inner, expr, conj, neg, comp, sum, term, fac, prim, in_parentheses}
use Rattle.mv_print.specs.Printing.{Piece, key, expr_pieces}
use Rattle.mv_print.specs.Same.{kind_step, expr_step, placeless_expr, placeless_name}
use Rattle.mv_print.proofs.Building.{Reading, Prints, prints_give, prints_next, prints_skip, prints_place, prints_inl, prints_inr}
use Rattle.mv_print.proofs.Sounding.{sound_key}

-- trees that are the same but for places
abbrev pub Same : Expr → Expr → Type 0
Same e w = placeless_expr e ≡ placeless_expr w

abbrev pub placeless_inside : ExprKind → ExprKind
placeless_inside = fold-ExprKind ExprKind Expr kind_step expr_step

pub placeless_is : (e : Expr) (k : ExprKind) → (out-Expr e).kind ≡ k → placeless_expr e ≡ leaf 0 (placeless_inside k)
placeless_is e k h = fold_out-Expr ExprKind Expr kind_step expr_step e ∙ ap (λ r. leaf 0 (placeless_inside r)) h

pub placeless_one : (op : OneOp) (a : Expr) → placeless_inside (One op a) ≡ One op (placeless_expr a)
placeless_one op a = ap placeless_inside (sym (rolls-One op a)) ∙ fold-roll-ExprKind ExprKind Expr kind_step expr_step (open-kind.One op a)

pub placeless_two : (op : TwoOp) (a b : Expr) → placeless_inside (Two op a b) ≡ Two op (placeless_expr a) (placeless_expr b)
placeless_two op a b = ap placeless_inside (sym (rolls-Two op a b)) ∙ fold-roll-ExprKind ExprKind Expr kind_step expr_step (open-kind.Two op a b)

pub placeless_var : (n : Name) → placeless_inside (Var n) ≡ Var (placeless_name n)
placeless_var n = ap placeless_inside (sym (rolls-Var n)) ∙ fold-roll-ExprKind ExprKind Expr kind_step expr_step (open-kind.Var n)

pub placeless_field : (n c : Name) → placeless_inside (Field n c) ≡ Field (placeless_name n) (placeless_name c)
placeless_field n c = ap placeless_inside (sym (rolls-Field n c)) ∙ fold-roll-ExprKind ExprKind Expr kind_step expr_step (open-kind.Field n c)

pub placeless_col : (n : Name) → placeless_inside (Col n) ≡ Col (placeless_name n)
placeless_col n = ap placeless_inside (sym (rolls-Col n)) ∙ fold-roll-ExprKind ExprKind Expr kind_step expr_step (open-kind.Col n)

pub same_one : (t u : ℕ) (op : OneOp) (a x : Expr) → Same a x → Same (leaf t (One op a)) (leaf u (One op x))
same_one t u op a x h =
    placeless_is (leaf t (One op a)) (One op a) refl ∙ (ap (leaf 0) (placeless_one op a ∙ (ap (One op) h ∙ sym (placeless_one op x))) ∙ sym (placeless_is (leaf u (One op x)) (One op x) refl))

pub same_two : (t u : ℕ) (op : TwoOp) (a b x y : Expr) → Same a x → Same b y → Same (leaf t (Two op a b)) (leaf u (Two op x y))
same_two t u op a b x y h k =
    placeless_is (leaf t (Two op a b)) (Two op a b) refl
    ∙ (ap (leaf 0) (placeless_two op a b ∙ (ap (λ r. Two op r (placeless_expr b)) h ∙ (ap (Two op (placeless_expr x)) k ∙ sym (placeless_two op x y)))) ∙ sym (placeless_is (leaf u (Two op x y)) (Two op x y) refl))

pub same_kind : (t u : ℕ) (k : ExprKind) → Same (leaf t k) (leaf u k)
same_kind t u k = placeless_is (leaf t k) k refl ∙ sym (placeless_is (leaf u k) k refl)

same_within : (e w : Expr) (t : ℕ) → Same e w → Same e (parenthesized t w)
same_within e w t h = h ∙ (placeless_is w w.kind refl ∙ sym (placeless_is (leaf t w.kind) w.kind refl))

-- the parts of the grammar that an expression is at each level
abbrev pub part_at : ℕ → List ℕ → Part Expr
part_at zero text = expr text
part_at (suc zero) text = conj text
part_at (suc (suc zero)) text = neg text
part_at (suc (suc (suc zero))) text = comp text
part_at (suc (suc (suc (suc zero)))) text = sum text
part_at (suc (suc (suc (suc (suc zero))))) text = term text
part_at (suc (suc (suc (suc (suc (suc zero)))))) text = fac text
part_at (suc (suc (suc (suc (suc (suc (suc n))))))) text = prim text

-- what is at a level is at the one below
lift_one : (text : List ℕ) (d n : ℕ) (ls : List Lexeme) (w : Expr) → Is (inner text d) (part_at (suc n) text) ls w → Is (inner text d) (part_at n text) ls w
unfolding expr conj neg comp sum term fac
lift_one text d zero ls w i = (ls, [], w, [], sym (append-nil ls), i, refl, refl)
lift_one text d (suc zero) ls w i = (ls, [], w, [], sym (append-nil ls), i, refl, refl)
lift_one text d (suc (suc zero)) ls w i = ([], ls, _, w, refl, ([], [], _, [], refl, (refl, refl), ([], [], [], [], refl, (refl, refl), refl, refl), refl), i, refl)
lift_one text d (suc (suc (suc zero))) ls w i = (ls, [], _, None, sym (append-nil ls), ([], ls, _, w, refl, (refl, refl), i, refl), inr (refl, refl), refl)
lift_one text d (suc (suc (suc (suc zero)))) ls w i = (ls, [], w, [], sym (append-nil ls), i, refl, refl)
lift_one text d (suc (suc (suc (suc (suc zero))))) ls w i = (ls, [], w, [], sym (append-nil ls), i, refl, refl)
lift_one text d (suc (suc (suc (suc (suc (suc zero)))))) ls w i = ([], ls, _, w, refl, ([], [], _, [], refl, (refl, refl), ([], [], [], [], refl, (refl, refl), refl, refl), refl), i, refl)
lift_one text d (suc (suc (suc (suc (suc (suc (suc n))))))) ls w i = i

lift_down : (text : List ℕ) (d k n : ℕ) (ls : List Lexeme) (w : Expr) → Is (inner text d) (part_at (n + k) text) ls w → Is (inner text d) (part_at n text) ls w
lift_down text d zero n ls w i = let e : n + 0 ≡ n = omega arith in subst (λ (r : ℕ). Is (inner text d) (part_at r text) ls w) e i
lift_down text d (suc k) n ls w i =
    let e : n + suc k ≡ suc n + k = omega arith in
    lift_one text d n ls w (lift_down text d k (suc n) ls w (subst (λ (r : ℕ). Is (inner text d) (part_at r text) ls w) e i))

pub prints_down : {text : List ℕ} {Q : Expr → Type 0} {ps : List Piece} (m n : ℕ) → n ≤ m → Prints text (part_at m text) Q ps → Prints text (part_at n text) Q ps
prints_down {text = text} {Q = Q} {ps = ps} m n h x =
    let e : m ≡ n + (m - n) = omega arith in
    let y : Prints text (part_at (n + (m - n)) text) Q ps = subst (λ (r : ℕ). Prints text (part_at r text) Q ps) e x in
    record { sounds = y.sounds; levels = y.levels; reads = λ d ls l s. (let r = y.reads d ls l s in (r.0, lift_down text d (m - n) n ls r.0 r.1, r.2)) }

-- an expression inside another
inside_read : (text : List ℕ) (Q : Expr → Type 0) (m d : ℕ) (ls : List Lexeme) → suc m ≤ d → ((e : ℕ) → m ≤ e → Reading text (expr text) Q e ls) → Reading text expression Q d ls
unfolding inner
inside_read text Q m zero ls h r = absurd (omega arith)
inside_read text Q m (suc d) ls h r = r d (omega arith)

pub prints_inside : {text : List ℕ} {Q : Expr → Type 0} {ps : List Piece} → Prints text (expr text) Q ps → Prints text expression Q ps
prints_inside {text = text} {Q = Q} x = record { sounds = x.sounds; levels = suc x.levels; reads = λ d ls h s. inside_read text Q x.levels d ls h (λ e l. x.reads e ls l s) }

prints_parens : {text : List ℕ} {ps : List Piece} (e : Expr) → Prints text (expr text) (Same e) ps → Prints text (prim text) (Same e) (key word.Open ∷ (ps ++ key word.Close ∷ []))
unfolding prim in_parentheses
prints_parens e x =
    prints_inr (prints_inr (prints_inr (prints_inr (prints_inl (prints_skip (key word.Close) (sound_key word.Close) refl
    (prints_next (prints_next (prints_give parenthesized (λ n h w k. same_within e w n k)) (prints_place (key word.Open) (sound_key word.Open) refl)) (prints_inside x)))))))

-- what is printed can be read at each level, and has parentheses there or not
abbrev pub AtEach : List ℕ → Expr → Type 0
AtEach text e = (n : ℕ) → n ≤ 7 → Prints text (part_at n text) (Same e) (expr_pieces e n)

abbrev pub Wrapped : Expr → Type 0
Wrapped e = (n : ℕ) → n ≤ 7 → (expr_pieces e n ≡ expr_pieces e 0) ⊎ (expr_pieces e n ≡ key word.Open ∷ (expr_pieces e 0 ++ key word.Close ∷ []))

abbrev pub Printable : List ℕ → Expr → Type 0
Printable text e = AtEach text e × Wrapped e

-- how an expression is read at its own level, and in parentheses where a higher one is asked for
pub record Core (text : List ℕ) (e : Expr) (level : ℕ) : Type 0 where
  pub core : List Piece
  pub bare : (n : ℕ) → n ≤ 7 → nat_lt level n ≡ false → expr_pieces e n ≡ core
  pub within : (n : ℕ) → n ≤ 7 → nat_lt level n ≡ true → expr_pieces e n ≡ key word.Open ∷ (core ++ key word.Close ∷ [])
  pub prints : Prints text (part_at level text) (Same e) core

printable_at : {text : List ℕ} {e : Expr} (level n : ℕ) (b : Bool) → nat_lt level n ≡ b → n ≤ 7 → Core text e level → Prints text (part_at n text) (Same e) (expr_pieces e n)
printable_at {text = text} {e = e} level n false b h c =
    subst (λ r. Prints text (part_at n text) (Same e) r) (sym (c.bare n h b)) (prints_down level n (let g = ltb-false level n b in omega arith) c.prints)
printable_at {text = text} {e = e} level n true b h c =
    subst (λ r. Prints text (part_at n text) (Same e) r) (sym (c.within n h b)) (prints_down 7 n h (prints_parens e (prints_down level 0 (omega arith) c.prints)))

wrapped_at : {text : List ℕ} {e : Expr} (level n : ℕ) (b : Bool) → nat_lt level n ≡ b → n ≤ 7 → Core text e level
    → (expr_pieces e n ≡ expr_pieces e 0) ⊎ (expr_pieces e n ≡ key word.Open ∷ (expr_pieces e 0 ++ key word.Close ∷ []))
wrapped_at level n false b h c = inl (c.bare n h b ∙ sym (c.bare 0 (omega arith) (le-ltb level 0 (omega arith))))
wrapped_at level n true b h c = inr (c.within n h b ∙ ap (λ r. key word.Open ∷ (r ++ key word.Close ∷ [])) (sym (c.bare 0 (omega arith) (le-ltb level 0 (omega arith)))))

pub printable_of : {text : List ℕ} {e : Expr} (level : ℕ) → Core text e level → Printable text e
printable_of level c = (λ n h. printable_at level n (nat_lt level n) refl h c, λ n h. wrapped_at level n (nat_lt level n) refl h c)
