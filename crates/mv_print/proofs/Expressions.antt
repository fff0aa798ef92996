-- Each expression of a source is read from its pieces.
use Rattle.std.proofs.Common.{◌≡◌, ◌⊎◌, ℕ, zero, suc, ◌≤◌, true, false, nat_lt, List, [], ◌∷◌, ◌++◌, Option, Some, None, refl, sym, ap, subst, ◌∙◌, append_assoc, append-nil, arith, inl, inr}
use Rattle.std.specs.Prelude.{pos}
use Rattle.std.proofs.lemmas.Bool.{ltb-true, le-ltb}
use Rattle.std.proofs.lemmas.List.{map-append}
use Rattle.mv_values.specs.declared.value.Value.{Value}
use Rattle.mv_values.specs.declared.op.Op.{Op}
use Rattle.mv_values.specs.declared.op.Op.TheVariants.{Eq, Ne, Lt, Le, Gt, Ge}
use Rattle.mv_values.specs.declared.value.Value.TheVariants as value
use Rattle.mv_ast.specs.declared.lexeme.Lexeme.{Lexeme}
use Rattle.mv_ast.specs.declared.lexeme.Terminal.{Terminal}
use Rattle.mv_ast.specs.declared.lexeme.Terminal.TheVariants as word
use Rattle.mv_ast.specs.declared.tree.Expr.{Expr}
use Rattle.mv_ast.specs.declared.tree.ExprKind.TheVariants.{Const, Var, Field, Col, One, Two}
use Rattle.mv_ast.specs.declared.tree.Name.{Name}
use Rattle.mv_ast.specs.declared.tree.OneOp.{OneOp}
use Rattle.mv_ast.specs.declared.tree.OneOp.TheVariants.{Neg, Not, TextOf}
use Rattle.mv_ast.specs.declared.tree.TwoOp.{TwoOp}
use Rattle.mv_ast.specs.declared.tree.TwoOp.TheVariants.{Add, Sub, Mul, Div, Rem, Join, Compare, And, Or, Left, Contains}
use Rattle.mv_ast.specs.Texts.{greatest}
use Rattle.mv_ast.specs.Parts.{Part, give, one, expression, Is, Pieces, joined}
use Rattle.mv_ast.specs.Trees.{leaf, parenthesized, prefixed, all_prefixed, paired, paired_by, called, column_named, variable_or_field, with_op, with_comparison, compared}
use Rattle.mv_ast.specs.Grammar.{◌⊛◌, ◌▸◌, inner, added, many, name, variable, const_number, const_text, expr, conj, neg, comp, op, sum, sum_op, term, term_op, fac, prim, variable_expr, left_call, contains_call, text_of_call, two_arguments, in_parens, place, in_parentheses, number_of, text_of}
use Rattle.mv_print.specs.Printing.{Piece, key, name_piece, variable_piece, number_piece, text_piece, value_pieces, expr_pieces, Leveled, two_pieces, opened, closed, op_word}
use Rattle.mv_print.specs.Same.{placeless_name}
use Rattle.mv_print.proofs.Light.{kinds, Plain, Light, light_none, light_joined, light_raised, light_plain, light_opens, light_close, light_parens, light_within}
use Rattle.mv_print.proofs.Building.{marks, light_both, light_token, Gives, gives_give, gives_one, gives_both, gives_next, gives_either, gives_left, Reading, Prints, Spelled, Sound, joined_added, prints_give, prints_next, prints_skip, prints_behind, prints_place, prints_inl, prints_inr, prints_more, prints_for}
use Rattle.mv_print.proofs.Sounding.{IsContent, IsName, IsVariable, sound_key, sound_number, sound_text}
use Rattle.mv_print.proofs.Meaning.{Good, meant_name, meant_variable, meant_text}
use Rattle.mv_print.proofs.Tokens.{prints_token, SameName, prints_name, prints_variable, number_read, text_read}
use Rattle.mv_print.proofs.Trees.{kind_pieces, of_kind, of_const, of_var, of_field, of_col, of_one, of_two}
use Rattle.mv_print.proofs.Levels.{Same, same_one, same_two, same_kind, placeless_is, placeless_var, placeless_field, placeless_col, part_at, prints_inside, Printable, Wrapped, printable_of}

-- what stands for itself at each level
printable_leaf : {text : List ℕ} (e : Expr) (ps : List Piece) → ((n : ℕ) → expr_pieces e n ≡ ps) → Prints text (prim text) (Same e) ps → Printable text e
printable_leaf e ps h x = printable_of 7 (record { core = ps; bare = λ n l b. h n; within = λ n l b. absurd (let g = ltb-true 7 n b in omega arith); prints = x })

const_same : (t u n m : ℕ) → m ≡ n → Same (leaf t (Const (value.Int (pos n)))) (leaf u (Const (value.Int (pos m))))
const_same t u n m h = subst (λ (r : ℕ). Same (leaf t (Const (value.Int (pos n)))) (leaf u (Const (value.Int (pos r))))) (sym h) (same_kind t u (Const (value.Int (pos n))))

text_same : (t u : ℕ) (n m : List ℕ) → m ≡ n → Same (leaf t (Const (value.Text n))) (leaf u (Const (value.Text m)))
text_same t u n m h = subst (λ r. Same (leaf t (Const (value.Text n))) (leaf u (Const (value.Text r)))) (sym h) (same_kind t u (Const (value.Text n)))

pub printable_number : {text : List ℕ} (t n : ℕ) → n ≤ greatest → Printable text (leaf t (Const (value.Int (pos n))))
unfolding prim
printable_number {text = text} t n h =
    let k = Const (value.Int (pos n)) in
    printable_leaf (leaf t k) (number_piece n ∷ []) (λ m. ap (λ f. f m) (of_kind (leaf t k) k refl) ∙ of_const (value.Int (pos n)) m)
    (prints_inl (prints_token (number_piece n) (sound_number n h) refl (λ l f. const_same t l.number n _ (number_read text n l h f))))

pub printable_text : {text : List ℕ} (t : ℕ) (content : List ℕ) → IsContent content → Printable text (leaf t (Const (value.Text content)))
unfolding prim
printable_text {text = text} t content h =
    let k = Const (value.Text content) in
    printable_leaf (leaf t k) (text_piece content ∷ []) (λ m. ap (λ f. f m) (of_kind (leaf t k) k refl) ∙ of_const (value.Text content) m)
    (prints_inr (prints_inl (prints_token (text_piece content) (sound_text content h) refl (λ l f. text_same t l.number content _ (text_read text content l f)))))

var_same : (t u : ℕ) (n m : Name) → SameName n m → Same (leaf t (Var n)) (leaf u (Var m))
var_same t u n m h =
    placeless_is (leaf t (Var n)) (Var n) refl ∙ (ap (leaf 0) (placeless_var n ∙ (ap Var h ∙ sym (placeless_var m))) ∙ sym (placeless_is (leaf u (Var m)) (Var m) refl))

col_same : (t u : ℕ) (n m : Name) → SameName n m → Same (leaf t (Col n)) (leaf u (Col m))
col_same t u n m h =
    placeless_is (leaf t (Col n)) (Col n) refl ∙ (ap (leaf 0) (placeless_col n ∙ (ap Col h ∙ sym (placeless_col m))) ∙ sym (placeless_is (leaf u (Col m)) (Col m) refl))

field_same : (t u : ℕ) (n m c e : Name) → SameName n m → SameName c e → Same (leaf t (Field n c)) (leaf u (Field m e))
field_same t u n m c e h k =
    placeless_is (leaf t (Field n c)) (Field n c) refl
    ∙ (ap (leaf 0) (placeless_field n c ∙ (ap (λ r. Field r (placeless_name c)) h ∙ (ap (Field (placeless_name m)) k ∙ sym (placeless_field m e)))) ∙ sym (placeless_is (leaf u (Field m e)) (Field m e) refl))

-- no field behind a variable
abbrev NoField : Option Name → Type 0
NoField None = Unit {0}
NoField (Some c) = ⊥

abbrev IsField : Name → Option Name → Type 0
IsField c None = ⊥
IsField c (Some e) = SameName c e

var_read : (t : ℕ) (n m : Name) (o : Option Name) → SameName n m → NoField o → Same (leaf t (Var n)) (variable_or_field m o)
var_read t n m None h k = var_same t m.token n m h
var_read t n m (Some c) h k = absurd k

field_read : (t : ℕ) (n c m : Name) (o : Option Name) → SameName n m → IsField c o → Same (leaf t (Field n c)) (variable_or_field m o)
field_read t n c m None h k = absurd k
field_read t n c m (Some e) h k = field_same t m.token n m c e h k

pub printable_variable : {text : List ℕ} (t : ℕ) (n : Name) → IsVariable n.text → Printable text (leaf t (Var n))
unfolding prim variable_expr
printable_variable {text = text} t n h =
    printable_leaf (leaf t (Var n)) (variable_piece n ∷ []) (λ m. ap (λ f. f m) (of_kind (leaf t (Var n)) (Var n) refl) ∙ of_var n m)
    (prints_inr (prints_inr (prints_inl (prints_next {P = NoField} (prints_next (prints_give variable_or_field (λ m k o j. var_read t n m o k j)) (prints_variable n h)) (prints_inr (prints_give None tt))))))

pub printable_field : {text : List ℕ} (t : ℕ) (n c : Name) → IsVariable n.text → IsName c.text → Printable text (leaf t (Field n c))
unfolding prim variable_expr
printable_field {text = text} t n c h i =
    printable_leaf (leaf t (Field n c)) (variable_piece n ∷ key word.Dot ∷ name_piece c ∷ []) (λ m. ap (λ f. f m) (of_kind (leaf t (Field n c)) (Field n c) refl) ∙ of_field n c m)
    (prints_inr (prints_inr (prints_inl (prints_next {P = IsField c} (prints_next (prints_give variable_or_field (λ m k o j. field_read t n c m o k j)) (prints_variable n h))
    (prints_inl (prints_next (prints_give Some (λ e k. k)) (prints_behind (key word.Dot) (sound_key word.Dot) refl (prints_name c i))))))))

pub printable_column : {text : List ℕ} (t : ℕ) (n : Name) → IsName n.text → Printable text (leaf t (Col n))
unfolding prim
printable_column {text = text} t n h =
    printable_leaf (leaf t (Col n)) (name_piece n ∷ []) (λ m. ap (λ f. f m) (of_kind (leaf t (Col n)) (Col n) refl) ∙ of_col n m)
    (prints_inr (prints_inr (prints_inr (prints_inl (prints_next (prints_give column_named (λ m k. col_same t m.token n m k)) (prints_name n h))))))

-- one more prefix
abbrev prefixes : OneOp → Terminal → Part Expr → Part Expr
prefixes o t p = give (all_prefixed o) ⊛ many (one t) ⊛ p

prefix_more : (text : List ℕ) (d : ℕ) (o : OneOp) (t : Terminal) (p : Part Expr) (l : Lexeme) (ls : List Lexeme) (w : Expr) → l.kind ≡ t
    → Is (inner text d) (prefixes o t p) ls w → Is (inner text d) (prefixes o t p) (l ∷ ls) (prefixed o l.number w)
prefix_more text d o t p l ls w k i =
    let f = i.5 in
    let m = f.6 in
    let none : m.0 ≡ [] = m.5.0 in
    let ns : m.1 ≡ i.0 = ap (λ r. r ++ m.1) (sym none) ∙ (sym m.4 ∙ (ap (λ r. r ++ f.1) (sym f.5.0) ∙ sym f.4)) in
    let list : f.3 ≡ m.3 = m.7 ∙ (joined_added m.2 m.3 ∙ ap (λ r. r ++ m.3) m.5.1) in
    let same : w ≡ all_prefixed o m.3 i.3 = i.7 ∙ (ap (λ r. r i.3) (f.7 ∙ (ap (λ r. r f.3) f.5.1 ∙ ap (all_prefixed o) list))) in (
      l ∷ i.0,
      i.1,
      all_prefixed o (joined added [] (l ∷ m.3)),
      i.3,
      ap (λ r. l ∷ r) i.4,
      (
        [],
        l ∷ i.0,
        all_prefixed o,
        joined added [] (l ∷ m.3),
        refl,
        (refl, refl),
        ([], l ∷ i.0, [], l ∷ m.3, refl, (refl, refl), (l ∷ [], i.0, refl, (refl, k), subst (λ r. Pieces (Is (inner text d) (one t)) r m.3) ns m.6), refl),
        refl,
      ),
      i.6,
      ap (prefixed o l.number) same ∙ ap (λ r. all_prefixed o r i.3) (sym (joined_added (l ∷ []) m.3)),
    )

prefix_read : (text : List ℕ) (d : ℕ) (o : OneOp) (t : Terminal) (p : Part Expr) (a : Expr) (tok : ℕ) (x : Piece) (ps : List Piece) (ls : List Lexeme) → x.kind ≡ t
    → ((ls : List Lexeme) → Spelled text ls ps → Reading text (prefixes o t p) (Same a) d ls) → Spelled text ls (x ∷ ps) → Reading text (prefixes o t p) (Same (leaf tok (One o a))) d ls
prefix_read text d o t p a tok x ps [] e r s = absurd s
prefix_read text d o t p a tok x ps (l ∷ ls) e r s =
    let z = r ls s.1 in
    (prefixed o l.number z.0, prefix_more text d o t p l ls z.0 (s.0.kind ∙ e) z.1, same_one tok l.number o a z.0 z.2)

prints_prefix : {text : List ℕ} {o : OneOp} {t : Terminal} {p : Part Expr} {ps : List Piece} (a : Expr) (tok : ℕ) (x : Piece) → Sound x → x.kind ≡ t
    → Prints text (prefixes o t p) (Same a) ps → Prints text (prefixes o t p) (Same (leaf tok (One o a))) (x ∷ ps)
prints_prefix {text = text} {o = o} {t = t} {p = p} {ps = ps} a tok x s e y = record {
  sounds = (inl s, y.sounds);
  levels = y.levels;
  reads = λ d ls h z. prefix_read text d o t p a tok x ps ls e (λ r j. y.reads d r h j) z;
}

one_at : (tok : ℕ) (o : OneOp) (a : Expr) (n : ℕ) (qs : List Piece) → kind_pieces (One o a) n ≡ qs → expr_pieces (leaf tok (One o a)) n ≡ qs
one_at tok o a n qs h = ap (λ f. f n) (of_kind (leaf tok (One o a)) (One o a) refl) ∙ h

-- the pieces of a prefix with no parentheses, and in them
neg_bare : (tok : ℕ) (a : Expr) (n : ℕ) → nat_lt 6 n ≡ false → expr_pieces (leaf tok (One Neg a)) n ≡ key word.Minus ∷ expr_pieces a 6
neg_bare tok a n h = one_at tok Neg a n _ (ap (λ f. f n) (of_one Neg a) ∙ rw h (ap (λ r. key word.Minus ∷ r) (append-nil (expr_pieces a 6))))

neg_within : (tok : ℕ) (a : Expr) (n : ℕ) → nat_lt 6 n ≡ true → expr_pieces (leaf tok (One Neg a)) n ≡ key word.Open ∷ key word.Minus ∷ (expr_pieces a 6 ++ key word.Close ∷ [])
neg_within tok a n h = one_at tok Neg a n _ (ap (λ f. f n) (of_one Neg a) ∙ rw h refl)

not_bare : (tok : ℕ) (a : Expr) (n : ℕ) → nat_lt 2 n ≡ false → expr_pieces (leaf tok (One Not a)) n ≡ key word.Not ∷ expr_pieces a 2
not_bare tok a n h = one_at tok Not a n _ (ap (λ f. f n) (of_one Not a) ∙ rw h (ap (λ r. key word.Not ∷ r) (append-nil (expr_pieces a 2))))

not_within : (tok : ℕ) (a : Expr) (n : ℕ) → nat_lt 2 n ≡ true → expr_pieces (leaf tok (One Not a)) n ≡ key word.Open ∷ key word.Not ∷ (expr_pieces a 2 ++ key word.Close ∷ [])
not_within tok a n h = one_at tok Not a n _ (ap (λ f. f n) (of_one Not a) ∙ rw h refl)

pub printable_one : {text : List ℕ} (tok : ℕ) (o : OneOp) (a : Expr) → Printable text a → Printable text (leaf tok (One o a))
unfolding fac neg prim text_of_call
printable_one tok Neg a h = printable_of 6 (record {
  core = key word.Minus ∷ expr_pieces a 6;
  bare = λ n l b. neg_bare tok a n b;
  within = λ n l b. neg_within tok a n b;
  prints = prints_prefix a tok (key word.Minus) (sound_key word.Minus) refl (h.0 6 (omega arith));
})
printable_one tok Not a h = printable_of 2 (record {
  core = key word.Not ∷ expr_pieces a 2;
  bare = λ n l b. not_bare tok a n b;
  within = λ n l b. not_within tok a n b;
  prints = prints_prefix a tok (key word.Not) (sound_key word.Not) refl (h.0 2 (omega arith));
})
printable_one tok TextOf a h =
    printable_leaf (leaf tok (One TextOf a)) (key word.TextOf ∷ key word.Open ∷ (expr_pieces a 0 ++ key word.Close ∷ [])) (λ n. one_at tok TextOf a n _ (ap (λ f. f n) (of_one TextOf a)))
    (prints_inr (prints_inr (prints_inr (prints_inr (prints_inr (prints_inr (prints_inl
    (prints_next (prints_next (prints_give (prefixed TextOf) (λ n k w j. same_one tok n TextOf a w j)) (prints_place (key word.TextOf) (sound_key word.TextOf) refl))
    (prints_skip (key word.Close) (sound_key word.Close) refl (prints_behind (key word.Open) (sound_key word.Open) refl (prints_inside (h.0 0 (omega arith)))))))))))))

-- two operands
two_at : (tok : ℕ) (o : TwoOp) (a b : Expr) (n : ℕ) → expr_pieces (leaf tok (Two o a b)) n ≡ two_pieces o (expr_pieces a) (expr_pieces b) n
two_at tok o a b n = ap (λ f. f n) (of_kind (leaf tok (Two o a b)) (Two o a b) refl ∙ of_two o a b)

-- an operator at this level, whose operands are at those
abbrev Shape : TwoOp → Terminal → ℕ → ℕ → ℕ → Type 0
Shape o t level near far = (f g : Leveled) (n : ℕ) → two_pieces o f g n ≡ opened (nat_lt level n) ++ (f near ++ key t ∷ (g far ++ closed (nat_lt level n)))

abbrev two_core : Terminal → ℕ → ℕ → Expr → Expr → List Piece
two_core t near far a b = expr_pieces a near ++ key t ∷ expr_pieces b far

two_bare : (tok : ℕ) (o : TwoOp) (t : Terminal) (level near far : ℕ) (a b : Expr) (n : ℕ) → Shape o t level near far → nat_lt level n ≡ false
    → expr_pieces (leaf tok (Two o a b)) n ≡ two_core t near far a b
two_bare tok o t level near far a b n s h =
    two_at tok o a b n ∙ (s (expr_pieces a) (expr_pieces b) n ∙ rw h (ap (λ r. expr_pieces a near ++ key t ∷ r) (append-nil (expr_pieces b far))))

two_within : (tok : ℕ) (o : TwoOp) (t : Terminal) (level near far : ℕ) (a b : Expr) (n : ℕ) → Shape o t level near far → nat_lt level n ≡ true
    → expr_pieces (leaf tok (Two o a b)) n ≡ key word.Open ∷ (two_core t near far a b ++ key word.Close ∷ [])
two_within tok o t level near far a b n s h =
    two_at tok o a b n ∙ (s (expr_pieces a) (expr_pieces b) n
    ∙ rw h (ap (λ r. key word.Open ∷ r) (sym (append_assoc (expr_pieces a near) (key t ∷ expr_pieces b far) (key word.Close ∷ [])))))

printable_two_at : {text : List ℕ} (tok : ℕ) (o : TwoOp) (t : Terminal) (level near far : ℕ) (a b : Expr) → Shape o t level near far
    → Prints text (part_at level text) (Same (leaf tok (Two o a b))) (two_core t near far a b) → Printable text (leaf tok (Two o a b))
printable_two_at tok o t level near far a b s x = printable_of level (record {
  core = two_core t near far a b;
  bare = λ n l h. two_bare tok o t level near far a b n s h;
  within = λ n l h. two_within tok o t level near far a b n s h;
  prints = x;
})

-- an operator and its right operand
abbrev IsNext : TwoOp → Expr → TwoOp × Expr → Type 0
IsNext o b z = (z.0 ≡ o) × Same b z.1

next_same : (tok : ℕ) (o : TwoOp) (a b x : Expr) (z : TwoOp × Expr) → Same a x → IsNext o b z → Same (leaf tok (Two o a b)) (paired_by x z)
next_same tok o a b x z h k = subst (λ r. Same (leaf tok (Two o a b)) (paired r x z.1)) (sym k.0) (same_two tok x.token o a b x z.1 h k.1)

abbrev IsCompared : Op → Expr → Option (Op × Expr) → Type 0
IsCompared o b None = ⊥
IsCompared o b (Some z) = (z.0 ≡ o) × Same b z.1

compared_same : (tok : ℕ) (o : Op) (a b x : Expr) (z : Option (Op × Expr)) → Same a x → IsCompared o b z → Same (leaf tok (Two (Compare o) a b)) (compared x z)
compared_same tok o a b x None h k = absurd k
compared_same tok o a b x (Some z) h k = subst (λ r. Same (leaf tok (Two (Compare o) a b)) (paired (Compare r) x z.1)) (sym k.0) (same_two tok x.token (Compare o) a b x z.1 h k.1)

prints_op : {text : List ℕ} (o : Op) → Prints text (op text) (λ x. x ≡ o) (key (op_word o) ∷ [])
unfolding op
prints_op Eq = prints_inl (prints_behind (key word.Equal) (sound_key word.Equal) refl (prints_give Eq refl))
prints_op Ne = prints_inr (prints_inl (prints_behind (key word.NotEqual) (sound_key word.NotEqual) refl (prints_give Ne refl)))
prints_op Lt = prints_inr (prints_inr (prints_inl (prints_behind (key word.Less) (sound_key word.Less) refl (prints_give Lt refl))))
prints_op Le = prints_inr (prints_inr (prints_inr (prints_inl (prints_behind (key word.LessOrEqual) (sound_key word.LessOrEqual) refl (prints_give Le refl)))))
prints_op Gt = prints_inr (prints_inr (prints_inr (prints_inr (prints_inl (prints_behind (key word.Greater) (sound_key word.Greater) refl (prints_give Gt refl))))))
prints_op Ge = prints_inr (prints_inr (prints_inr (prints_inr (prints_inr (prints_behind (key word.GreaterOrEqual) (sound_key word.GreaterOrEqual) refl (prints_give Ge refl))))))

-- a further term of a sum, and a further factor of a term
prints_next_of : {text : List ℕ} {p : Part TwoOp} {q : Part Expr} {x : Piece} {ps : List Piece} (o : TwoOp) (b : Expr) → Prints text p (λ r. r ≡ o) (x ∷ []) → Prints text q (Same b) ps
    → Prints text (give with_op ⊛ p ⊛ q) (IsNext o b) (x ∷ ps)
prints_next_of o b y z = prints_next (prints_next (prints_give with_op (λ r h w k. (h, k))) y) z

printable_sum : {text : List ℕ} (tok : ℕ) (o : TwoOp) (t : Terminal) (a b : Expr) → Shape o t 4 4 5 → Prints text (sum_op text) (λ r. r ≡ o) (key t ∷ [])
    → Printable text a → Printable text b → Printable text (leaf tok (Two o a b))
unfolding sum
printable_sum tok o t a b s y h g =
    printable_two_at tok o t 4 4 5 a b s (prints_more (h.0 4 (omega arith)) (prints_next_of o b y (g.0 5 (omega arith))) (λ x z p q. next_same tok o a b x z p q))

printable_term : {text : List ℕ} (tok : ℕ) (o : TwoOp) (t : Terminal) (a b : Expr) → Shape o t 5 5 6 → Prints text (term_op text) (λ r. r ≡ o) (key t ∷ [])
    → Printable text a → Printable text b → Printable text (leaf tok (Two o a b))
unfolding term
printable_term tok o t a b s y h g =
    printable_two_at tok o t 5 5 6 a b s (prints_more (h.0 5 (omega arith)) (prints_next_of o b y (g.0 6 (omega arith))) (λ x z p q. next_same tok o a b x z p q))

printable_or : {text : List ℕ} (tok : ℕ) (a b : Expr) → Printable text a → Printable text b → Printable text (leaf tok (Two Or a b))
unfolding expr
printable_or tok a b h g =
    printable_two_at tok Or word.Or 0 0 1 a b (λ x y n. refl)
    (prints_more (h.0 0 (omega arith)) (prints_behind (key word.Or) (sound_key word.Or) refl (g.0 1 (omega arith))) (λ x z p q. same_two tok x.token Or a b x z p q))

printable_and : {text : List ℕ} (tok : ℕ) (a b : Expr) → Printable text a → Printable text b → Printable text (leaf tok (Two And a b))
unfolding conj
printable_and tok a b h g =
    printable_two_at tok And word.And 1 1 2 a b (λ x y n. refl)
    (prints_more (h.0 1 (omega arith)) (prints_behind (key word.And) (sound_key word.And) refl (g.0 2 (omega arith))) (λ x z p q. same_two tok x.token And a b x z p q))

printable_compare : {text : List ℕ} (tok : ℕ) (o : Op) (a b : Expr) → Printable text a → Printable text b → Printable text (leaf tok (Two (Compare o) a b))
unfolding comp
printable_compare tok o a b h g =
    printable_two_at tok (Compare o) (op_word o) 3 4 4 a b (λ x y n. refl)
    (prints_next {P = IsCompared o b} (prints_next (prints_give compared (λ x p z q. compared_same tok o a b x z p q)) (h.0 4 (omega arith)))
    (prints_inl (prints_next (prints_give Some (λ z q. q)) (prints_next (prints_next (prints_give with_comparison (λ r p w q. (p, q))) (prints_op o)) (g.0 4 (omega arith))))))

-- LEFT and CONTAINS
abbrev call_core : Terminal → Expr → Expr → List Piece
call_core t a b = key t ∷ key word.Open ∷ (expr_pieces a 0 ++ key word.Comma ∷ (expr_pieces b 0 ++ key word.Close ∷ []))

prints_call : {text : List ℕ} (tok : ℕ) (o : TwoOp) (t : Terminal) (a b : Expr) → Sound (key t) → Printable text a → Printable text b
    → Prints text (two_arguments text o t) (Same (leaf tok (Two o a b))) (call_core t a b)
prints_call {text = text} tok o t a b s h g =
    let e : (key t ∷ key word.Open ∷ expr_pieces a 0 ++ key word.Comma ∷ []) ++ expr_pieces b 0 ++ key word.Close ∷ [] ≡ call_core t a b =
    ap (λ r. key t ∷ key word.Open ∷ r) (append_assoc (expr_pieces a 0 ++ key word.Comma ∷ []) (expr_pieces b 0) (key word.Close ∷ [])
    ∙ append_assoc (expr_pieces a 0) (key word.Comma ∷ []) (expr_pieces b 0 ++ key word.Close ∷ [])) in
    subst (λ r. Prints text (two_arguments text o t) (Same (leaf tok (Two o a b))) r) e
    (prints_skip (key word.Close) (sound_key word.Close) refl (prints_next (prints_skip (key word.Comma) (sound_key word.Comma) refl (prints_next
    (prints_skip (key word.Open) (sound_key word.Open) refl (prints_next (prints_give (called o) (λ n k x p y q. same_two tok n o a b x y p q)) (prints_place (key t) s refl)))
    (prints_inside (h.0 0 (omega arith))))) (prints_inside (g.0 0 (omega arith)))))

pub printable_two : {text : List ℕ} (tok : ℕ) (o : TwoOp) (a b : Expr) → Printable text a → Printable text b → Printable text (leaf tok (Two o a b))
unfolding prim left_call contains_call sum_op term_op
printable_two tok Or a b h g = printable_or tok a b h g
printable_two tok And a b h g = printable_and tok a b h g
printable_two tok (Compare o) a b h g = printable_compare tok o a b h g
printable_two tok Add a b h g = printable_sum tok Add word.Plus a b (λ x y n. refl) (prints_inl (prints_behind (key word.Plus) (sound_key word.Plus) refl (prints_give Add refl))) h g
printable_two tok Sub a b h g = printable_sum tok Sub word.Minus a b (λ x y n. refl) (prints_inr (prints_inl (prints_behind (key word.Minus) (sound_key word.Minus) refl (prints_give Sub refl)))) h g
printable_two tok Join a b h g = printable_sum tok Join word.Bars a b (λ x y n. refl) (prints_inr (prints_inr (prints_behind (key word.Bars) (sound_key word.Bars) refl (prints_give Join refl)))) h g
printable_two tok Mul a b h g = printable_term tok Mul word.Star a b (λ x y n. refl) (prints_inl (prints_behind (key word.Star) (sound_key word.Star) refl (prints_give Mul refl))) h g
printable_two tok Div a b h g = printable_term tok Div word.Slash a b (λ x y n. refl) (prints_inr (prints_inl (prints_behind (key word.Slash) (sound_key word.Slash) refl (prints_give Div refl)))) h g
printable_two tok Rem a b h g = printable_term tok Rem word.Percent a b (λ x y n. refl) (prints_inr (prints_inr (prints_behind (key word.Percent) (sound_key word.Percent) refl (prints_give Rem refl)))) h g
printable_two tok Left a b h g =
    printable_leaf (leaf tok (Two Left a b)) (call_core word.Left a b) (λ n. two_at tok Left a b n)
    (prints_inr (prints_inr (prints_inr (prints_inr (prints_inr (prints_inl (prints_call tok Left word.Left a b (sound_key word.Left) h g)))))))
printable_two tok Contains a b h g =
    printable_leaf (leaf tok (Two Contains a b)) (call_core word.Contains a b) (λ n. two_at tok Contains a b n)
    (prints_inr (prints_inr (prints_inr (prints_inr (prints_inr (prints_inr (prints_inr (prints_call tok Contains word.Contains a b (sound_key word.Contains) h g))))))))

-- the pieces of what stands for itself
pieces_value : (t : ℕ) (v : Value) (m : ℕ) → expr_pieces (leaf t (Const v)) m ≡ value_pieces v
pieces_value t v m = ap (λ f. f m) (of_kind (leaf t (Const v)) (Const v) refl) ∙ of_const v m

-- the tokens are no lighter than the pieces at each level up to this
abbrev pub Lit : ℕ → List Lexeme → Expr → Type 0
Lit level ts e = (n : ℕ) → n ≤ level → Light 0 0 (kinds ts) (marks (expr_pieces e n))

lit_leaf : (ts : List Lexeme) (e : Expr) (ps : List Piece) → ((n : ℕ) → expr_pieces e n ≡ ps) → Light 0 0 (kinds ts) (marks ps) → Lit 7 ts e
lit_leaf ts e ps h l n m = subst (λ r. Light 0 0 (kinds ts) (marks r)) (sym (h n)) l

plain_at : (n : ℕ) (t : Terminal) (l : Lexeme) (x : Piece) → l.kind ≡ t → x.kind ≡ t → Plain t → Light n n (l.kind ∷ []) (x.kind ∷ [])
plain_at n t l x e f p = subst (λ r. Light n n (r ∷ []) (x.kind ∷ [])) (sym e) (subst (λ r. Light n n (t ∷ []) (r ∷ [])) (sym f) (light_plain n t p))

-- in parentheses, or with needless ones left out
lit_parens : (text : List ℕ) (ts us : List Lexeme) (e : Expr) → Wrapped e → kinds us ≡ word.Open ∷ (kinds ts ++ word.Close ∷ []) → Lit 0 ts e → Lit 7 us e
lit_parens text ts us e w k l n h =
    subst (λ r. Light 0 0 r (marks (expr_pieces e n))) (sym k) (elim (w n h) [
      | inl same ↦ subst (λ r. Light 0 0 (word.Open ∷ (kinds ts ++ word.Close ∷ [])) (marks r)) (sym same) (light_parens (kinds ts) (marks (expr_pieces e 0)) (l 0 (omega arith)))
      | inr same ↦ subst (λ r. Light 0 0 (word.Open ∷ (kinds ts ++ word.Close ∷ [])) (marks r)) (sym same)
          (subst (λ r. Light 0 0 (word.Open ∷ (kinds ts ++ word.Close ∷ [])) (word.Open ∷ r)) (sym (map-append (λ (p : Piece). p.kind) (expr_pieces e 0) (key word.Close ∷ [])))
          (light_within (kinds ts) (marks (expr_pieces e 0)) (l 0 (omega arith))))
    ])

-- prefixes
lit_neg : (l : Lexeme) (ts : List Lexeme) (e : Expr) → l.kind ≡ word.Minus → Lit 6 ts e → Lit 6 (l ∷ ts) (prefixed Neg l.number e)
lit_neg l ts e k h n m =
    let b : nat_lt 6 n ≡ false = le-ltb 6 n m in
    subst (λ r. Light 0 0 (kinds (l ∷ ts)) (marks r)) (sym (neg_bare l.number e n b))
    (light_joined 0 0 0 (l.kind ∷ []) (kinds ts) (word.Minus ∷ []) (marks (expr_pieces e 6)) (plain_at 0 word.Minus l (key word.Minus) k refl (record { opens = refl; closes = refl; ends = refl })) (h 6 (omega arith)))

lit_not : (l : Lexeme) (ts : List Lexeme) (e : Expr) → l.kind ≡ word.Not → Lit 2 ts e → Lit 2 (l ∷ ts) (prefixed Not l.number e)
lit_not l ts e k h n m =
    let b : nat_lt 2 n ≡ false = le-ltb 2 n m in
    subst (λ r. Light 0 0 (kinds (l ∷ ts)) (marks r)) (sym (not_bare l.number e n b))
    (light_joined 0 0 0 (l.kind ∷ []) (kinds ts) (word.Not ∷ []) (marks (expr_pieces e 2)) (plain_at 0 word.Not l (key word.Not) k refl (record { opens = refl; closes = refl; ends = refl })) (h 2 (omega arith)))

-- operators
lit_two : (tok : ℕ) (o : TwoOp) (t : Terminal) (level near far : ℕ) (a b : Expr) (l : Lexeme) (xs ys ts : List Lexeme) → Shape o t level near far → Plain t → l.kind ≡ t → ts ≡ xs ++ l ∷ ys
    → Light 0 0 (kinds xs) (marks (expr_pieces a near)) → Light 0 0 (kinds ys) (marks (expr_pieces b far)) → Lit level ts (leaf tok (Two o a b))
lit_two tok o t level near far a b l xs ys ts s p k e x y n h =
    subst (λ r. Light 0 0 (kinds ts) (marks r)) (sym (two_bare tok o t level near far a b n s (le-ltb level n h)))
    (light_both 0 0 0 ts xs (l ∷ ys) (expr_pieces a near) (key t ∷ expr_pieces b far) e x
    (light_joined 0 0 0 (l.kind ∷ []) (kinds ys) (t ∷ []) (marks (expr_pieces b far)) (plain_at 0 t l (key t) k refl p) y))

pub plain_op : (o : Op) → Plain (op_word o)
plain_op Eq = record { opens = refl; closes = refl; ends = refl }
plain_op Ne = record { opens = refl; closes = refl; ends = refl }
plain_op Lt = record { opens = refl; closes = refl; ends = refl }
plain_op Le = record { opens = refl; closes = refl; ends = refl }
plain_op Gt = record { opens = refl; closes = refl; ends = refl }
plain_op Ge = record { opens = refl; closes = refl; ends = refl }

-- Each expression that is read from good tokens can be printed at each level, and its pieces are no heavier than the tokens.
module _ (bytes text : List ℕ) (d : ℕ) where
  abbrev Found : ℕ → Part Expr → Type 0
  Found level p = Gives (Good bytes) bytes d p (λ ts e. Printable text e × Lit level ts e)

  abbrev FoundInside : Type 0
  FoundInside = Found 0 expression

  -- one plain token
  abbrev OnlyPlain : List Lexeme → Terminal → Type 0
  OnlyPlain ts t = Light 0 0 (kinds ts) (t ∷ [])

  only : (t : Terminal) (l : Lexeme) → Plain t → l.kind ≡ t → OnlyPlain (l ∷ []) t
  only t l p e = subst (λ r. Light 0 0 (r ∷ []) (t ∷ [])) (sym e) (light_plain 0 t p)

  pub found_name : Gives (Good bytes) bytes d (name bytes) (λ ts n. IsName n.text × OnlyPlain ts word.Name)
  unfolding name
  found_name = gives_next (gives_give (λ ys l h. h)) (gives_one (λ l g e. (meant_name l g e, only word.Name l (record { opens = refl; closes = refl; ends = refl }) e)))

  pub found_variable : Gives (Good bytes) bytes d (variable bytes) (λ ts n. IsVariable n.text × OnlyPlain ts word.Variable)
  unfolding variable
  found_variable = gives_next (gives_give (λ ys l h. h)) (gives_one (λ l g e. (meant_variable l g e, only word.Variable l (record { opens = refl; closes = refl; ends = refl }) e)))

  -- what stands behind a variable
  abbrev FieldLit : List Lexeme → Option Name → Type 0
  FieldLit ts None = Light 0 0 (kinds ts) []
  FieldLit ts (Some n) = IsName n.text × Light 0 0 (kinds ts) (word.Dot ∷ word.Name ∷ [])

  found_either : (xs ys : List Lexeme) (n : Name) (o : Option Name) → IsVariable n.text → OnlyPlain xs word.Variable → FieldLit ys o → Printable text (variable_or_field n o) × Lit 7 (xs ++ ys) (variable_or_field n o)
  found_either xs ys n None h l k = (
    printable_variable n.token n h,
    lit_leaf (xs ++ ys) (leaf n.token (Var n)) (variable_piece n ∷ []) (λ m. ap (λ f. f m) (of_kind (leaf n.token (Var n)) (Var n) refl) ∙ of_var n m) (light_both 0 0 0 (xs ++ ys) xs ys (variable_piece n ∷ []) [] refl l k),
  )
  found_either xs ys n (Some c) h l k = (
    printable_field n.token n c h k.0,
    lit_leaf (xs ++ ys) (leaf n.token (Field n c)) (variable_piece n ∷ key word.Dot ∷ name_piece c ∷ []) (λ m. ap (λ f. f m) (of_kind (leaf n.token (Field n c)) (Field n c) refl) ∙ of_field n c m)
        (light_both 0 0 0 (xs ++ ys) xs ys (variable_piece n ∷ []) (key word.Dot ∷ name_piece c ∷ []) refl l k.1),
  )

  pieces_within : (n : ℕ) (e : Expr) (m : ℕ) → expr_pieces e m ≡ expr_pieces (parenthesized n e) m
  pieces_within n e m = ap (λ f. f m) (of_kind e e.kind refl ∙ sym (of_kind (parenthesized n e) e.kind refl))

  printable_within : (n : ℕ) (e : Expr) → Printable text e → Printable text (parenthesized n e)
  printable_within n e h = (
    (λ m l. subst (λ r. Prints text (part_at m text) (Same (parenthesized n e)) r) (pieces_within n e m) (prints_for (λ w k. (placeless_is (parenthesized n e) e.kind refl ∙ sym (placeless_is e e.kind refl)) ∙ k) (h.0 m l))),
    (λ m l. subst (λ r. (r m ≡ r 0) ⊎ (r m ≡ key word.Open ∷ (r 0 ++ key word.Close ∷ []))) (of_kind e e.kind refl ∙ sym (of_kind (parenthesized n e) e.kind refl)) (h.1 m l)),
  )

  -- an expression behind `(`
  abbrev Opened : List Lexeme → Expr → Type 0
  Opened xs w = (ts : List Lexeme) × (kinds xs ≡ word.Open ∷ kinds ts) × Printable text w × Lit 0 ts w

  found_open : Gives (Good bytes) bytes d (place word.Open) (λ ts n. kinds ts ≡ word.Open ∷ [])
  found_open = gives_next (gives_give (λ ys l h. h)) (gives_one (λ l g e. ap (λ r. r ∷ []) e))

  abbrev opened_kinds : (xs ts : List Lexeme) → kinds xs ≡ word.Open ∷ [] → kinds (xs ++ ts) ≡ word.Open ∷ kinds ts
  opened_kinds xs ts h = map-append (λ (l : Lexeme). l.kind) xs ts ∙ ap (λ r. r ++ kinds ts) h

  closed_kinds : (xs ts : List Lexeme) (l : Lexeme) → kinds xs ≡ word.Open ∷ kinds ts → l.kind ≡ word.Close → kinds (xs ++ l ∷ []) ≡ word.Open ∷ (kinds ts ++ word.Close ∷ [])
  closed_kinds xs ts l h k = map-append (λ (l : Lexeme). l.kind) xs (l ∷ []) ∙ (ap (λ r. r ++ l.kind ∷ []) h ∙ ap (λ r. word.Open ∷ (kinds ts ++ r ∷ [])) k)

  lit_within : (ts : List Lexeme) (n : ℕ) (e : Expr) → Lit 0 ts e → Lit 0 ts (parenthesized n e)
  lit_within ts n e h m l = subst (λ r. Light 0 0 (kinds ts) (marks r)) (pieces_within n e m) (h m l)

  found_parens : FoundInside → Found 7 (in_parentheses bytes)
  unfolding in_parentheses
  found_parens inside =
      gives_both {P = Opened} {Q = λ ts l. (ts ≡ l ∷ []) × (l.kind ≡ word.Close)}
      (gives_next (gives_next (gives_give (λ xs n h ys e k. (ys, opened_kinds xs ys h, printable_within n e k.0, lit_within ys n e k.1))) found_open) inside)
      (gives_one (λ l g e. (refl, e)))
      (λ xs ys w l h k. (h.2, subst (λ r. Lit 7 (xs ++ r) w) (sym k.0) (lit_parens text h.0 (xs ++ l ∷ []) w h.2.1 (closed_kinds xs h.0 l h.1 k.1) h.3)))

  -- TEXTOF
  found_argument : FoundInside → Gives (Good bytes) bytes d (in_parens expression) (λ ts e. Printable text e × Light 0 0 (kinds ts) (marks (key word.Open ∷ (expr_pieces e 0 ++ key word.Close ∷ []))))
  found_argument inside =
      gives_both {P = Opened} {Q = λ ts l. (ts ≡ l ∷ []) × (l.kind ≡ word.Close)}
      (gives_both {P = λ ts l. kinds ts ≡ word.Open ∷ []} (gives_one (λ l g e. ap (λ r. r ∷ []) e)) inside (λ xs ys l e h k. (ys, opened_kinds xs ys h, k.0, k.1)))
      (gives_one (λ l g e. (refl, e)))
      (λ xs ys w l h k. (h.2, subst (λ r. Light 0 0 (kinds (xs ++ r)) (marks (key word.Open ∷ (expr_pieces w 0 ++ key word.Close ∷ [])))) (sym k.0) (argument_light xs h.0 w l h.1 k.1 (h.3 0 (omega arith)))))
    where
      argument_light : (xs ts : List Lexeme) (w : Expr) (l : Lexeme) → kinds xs ≡ word.Open ∷ kinds ts → l.kind ≡ word.Close → Light 0 0 (kinds ts) (marks (expr_pieces w 0))
          → Light 0 0 (kinds (xs ++ l ∷ [])) (marks (key word.Open ∷ (expr_pieces w 0 ++ key word.Close ∷ [])))
      argument_light xs ts w l h k x =
          subst (λ r. Light 0 0 r (marks (key word.Open ∷ (expr_pieces w 0 ++ key word.Close ∷ [])))) (sym (closed_kinds xs ts l h k))
          (subst (λ r. Light 0 0 (word.Open ∷ (kinds ts ++ word.Close ∷ [])) (word.Open ∷ r)) (sym (map-append (λ (p : Piece). p.kind) (expr_pieces w 0) (key word.Close ∷ []))) (light_within (kinds ts) (marks (expr_pieces w 0)) x))

  found_textof : FoundInside → Found 7 (text_of_call bytes)
  unfolding text_of_call
  found_textof inside =
      gives_next {P = λ ts e. Printable text e × Light 0 0 (kinds ts) (marks (key word.Open ∷ (expr_pieces e 0 ++ key word.Close ∷ [])))}
      (gives_next {P = λ ts n. OnlyPlain ts word.TextOf} (gives_give (λ xs n h ys e k. (
        printable_one n TextOf e k.0,
        lit_leaf (xs ++ ys) (prefixed TextOf n e) (key word.TextOf ∷ key word.Open ∷ (expr_pieces e 0 ++ key word.Close ∷ [])) (λ m. one_at n TextOf e m _ (ap (λ f. f m) (of_one TextOf e)))
            (light_both 0 0 0 (xs ++ ys) xs ys (key word.TextOf ∷ []) (key word.Open ∷ (expr_pieces e 0 ++ key word.Close ∷ [])) refl h k.1),
      )))
      (gives_next (gives_give (λ ys l h. h)) (gives_one (λ l g e. only word.TextOf l (record { opens = refl; closes = refl; ends = refl }) e))))
      (found_argument inside)

  -- LEFT and CONTAINS, up to each of their tokens
  abbrev CallBegun : TwoOp → Terminal → List Lexeme → (Expr → Expr → Expr) → Type 0
  CallBegun o t xs f = (n : ℕ) × (f ≡ called o n) × Light 0 1 (kinds xs) (marks (key t ∷ key word.Open ∷ []))

  abbrev CallFirst : TwoOp → Terminal → List Lexeme → (Expr → Expr) → Type 0
  CallFirst o t xs f = (n : ℕ) × (a : Expr) × (f ≡ called o n a) × Printable text a × Light 0 1 (kinds xs) (marks (key t ∷ key word.Open ∷ expr_pieces a 0))

  abbrev CallComma : TwoOp → Terminal → List Lexeme → (Expr → Expr) → Type 0
  CallComma o t xs f = (n : ℕ) × (a : Expr) × (f ≡ called o n a) × Printable text a × Light 0 1 (kinds xs) (marks ((key t ∷ key word.Open ∷ expr_pieces a 0) ++ key word.Comma ∷ []))

  abbrev CallSecond : TwoOp → Terminal → List Lexeme → Expr → Type 0
  CallSecond o t xs e = (n : ℕ) × (a : Expr) × (b : Expr) × (e ≡ called o n a b) × Printable text a × Printable text b
      × Light 0 1 (kinds xs) (marks (((key t ∷ key word.Open ∷ expr_pieces a 0) ++ key word.Comma ∷ []) ++ expr_pieces b 0))

  abbrev OnlyOf : Terminal → List Lexeme → Lexeme → Type 0
  OnlyOf t ts l = (ts ≡ l ∷ []) × (l.kind ≡ t)

  call_end : (o : TwoOp) (t : Terminal) (xs ys : List Lexeme) (e : Expr) (l : Lexeme) → ((n : ℕ) (a b : Expr) (m : ℕ) → expr_pieces (called o n a b) m ≡ call_core t a b)
      → CallSecond o t xs e → OnlyOf word.Close ys l → Printable text e × Lit 7 (xs ++ ys) e
  call_end o t xs ys e l same h k =
      let lead = (key t ∷ key word.Open ∷ expr_pieces h.1 0) ++ key word.Comma ∷ [] in
      let ps = lead ++ expr_pieces h.2 0 in
      let regroup : ps ++ key word.Close ∷ [] ≡ call_core t h.1 h.2 =
      append_assoc lead (expr_pieces h.2 0) (key word.Close ∷ []) ∙ append_assoc (key t ∷ key word.Open ∷ expr_pieces h.1 0) (key word.Comma ∷ []) (expr_pieces h.2 0 ++ key word.Close ∷ []) in
      let l0 = light_both 0 1 0 (xs ++ ys) xs ys ps (key word.Close ∷ []) refl h.6 (light_token 1 0 word.Close ys l (key word.Close) k.0 k.1 refl (light_close 0)) in
      let l1 : Light 0 0 (kinds (xs ++ ys)) (marks (call_core t h.1 h.2)) = subst (λ r. Light 0 0 (kinds (xs ++ ys)) (marks r)) regroup l0 in
      subst (λ r. Printable text r × Lit 7 (xs ++ ys) r) (sym h.3) (printable_two h.0 o h.1 h.2 h.4 h.5, lit_leaf (xs ++ ys) (called o h.0 h.1 h.2) (call_core t h.1 h.2) (λ m. same h.0 h.1 h.2 m) l1)

  found_call : FoundInside → (o : TwoOp) (t : Terminal) → Plain t → ((n : ℕ) (a b : Expr) (m : ℕ) → expr_pieces (called o n a b) m ≡ call_core t a b) → Found 7 (two_arguments bytes o t)
  found_call inside o t p same =
      gives_both {P = CallSecond o t} {Q = OnlyOf word.Close}
      (gives_both {P = CallComma o t} {Q = λ ts e. Printable text e × Lit 0 ts e}
      (gives_both {P = CallFirst o t} {Q = OnlyOf word.Comma}
      (gives_both {P = CallBegun o t} {Q = λ ts e. Printable text e × Lit 0 ts e}
      (gives_both {P = λ xs f. (n : ℕ) × (f ≡ called o n) × Light 0 0 (kinds xs) (t ∷ [])} {Q = OnlyOf word.Open}
      (gives_next {P = λ ts n. Light 0 0 (kinds ts) (t ∷ [])} (gives_give (λ ys n h. (n, refl, h))) (gives_next (gives_give (λ ys l h. h)) (gives_one (λ l g e. only t l p e))))
      (gives_one (λ l g e. (refl, e)))
      (λ xs ys f l h k. (h.0, h.1, light_both 0 0 1 (xs ++ ys) xs ys (key t ∷ []) (key word.Open ∷ []) refl h.2 (light_token 0 1 word.Open ys l (key word.Open) k.0 k.1 refl (light_opens 0 word.Open (record { opens = refl; ends = refl }))))))
      inside
      (λ xs ys f a h k. (h.0, a, ap (λ r. r a) h.1, k.0, light_both 0 1 1 (xs ++ ys) xs ys (key t ∷ key word.Open ∷ []) (expr_pieces a 0) refl h.2 (light_raised 1 (kinds ys) (marks (expr_pieces a 0)) (k.1 0 (omega arith))))))
      (gives_one (λ l g e. (refl, e)))
      (λ xs ys f l h k. (
        h.0,
        h.1,
        h.2,
        h.3,
        light_both 0 1 1 (xs ++ ys) xs ys (key t ∷ key word.Open ∷ expr_pieces h.1 0) (key word.Comma ∷ []) refl h.4
            (light_token 1 1 word.Comma ys l (key word.Comma) k.0 k.1 refl (light_plain 1 word.Comma (record { opens = refl; closes = refl; ends = refl }))),
      )))
      inside
      (λ xs ys f b h k. (
        h.0,
        h.1,
        b,
        ap (λ r. r b) h.2,
        h.3,
        k.0,
        light_both 0 1 1 (xs ++ ys) xs ys ((key t ∷ key word.Open ∷ expr_pieces h.1 0) ++ key word.Comma ∷ []) (expr_pieces b 0) refl h.4 (light_raised 1 (kinds ys) (marks (expr_pieces b 0)) (k.1 0 (omega arith))),
      )))
      (gives_one (λ l g e. (refl, e)))
      (λ xs ys e l h k. call_end o t xs ys e l same h k)

  found_prim : FoundInside → Found 7 (prim bytes)
  unfolding prim variable_expr left_call contains_call
  found_prim inside =
      gives_either (gives_next {P = λ ts l. OnlyPlain ts word.Number}
      (gives_give (λ ys l h. (printable_number l.number (number_of bytes l) (omega arith), lit_leaf ys (const_number bytes l) (number_piece (number_of bytes l) ∷ []) (λ m. pieces_value l.number (value.Int (pos (number_of bytes l))) m) h)))
      (gives_one (λ l g e. only word.Number l (record { opens = refl; closes = refl; ends = refl }) e)))
      (gives_either (gives_next {P = λ ts l. IsContent (text_of bytes l) × OnlyPlain ts word.Quoted}
      (gives_give (λ ys l h. (printable_text l.number (text_of bytes l) h.0, lit_leaf ys (const_text bytes l) (text_piece (text_of bytes l) ∷ []) (λ m. pieces_value l.number (value.Text (text_of bytes l)) m) h.1)))
      (gives_one (λ l g e. (meant_text l g e, only word.Quoted l (record { opens = refl; closes = refl; ends = refl }) e))))
      (gives_either (gives_next {P = FieldLit} (gives_next (gives_give (λ xs n h ys o k. found_either xs ys n o h.0 h.1 k)) found_variable)
      (gives_either (gives_next {P = λ ts n. IsName n.text × Light 0 0 (kinds ts) (word.Dot ∷ word.Name ∷ [])} (gives_give (λ ys n h. h))
      (gives_both {P = λ ts l. OnlyPlain ts word.Dot} (gives_one (λ l g e. only word.Dot l (record { opens = refl; closes = refl; ends = refl }) e)) found_name
      (λ xs ys a n h k. (k.0, light_both 0 0 0 (xs ++ ys) xs ys (key word.Dot ∷ []) (name_piece n ∷ []) refl h k.1))))
      (gives_give (light_none 0))))
      (gives_either (gives_next (gives_give (λ ys n h. (
        printable_column n.token n h.0,
        lit_leaf ys (leaf n.token (Col n)) (name_piece n ∷ []) (λ m. ap (λ f. f m) (of_kind (leaf n.token (Col n)) (Col n) refl) ∙ of_col n m) h.1,
      ))) found_name)
      (gives_either (found_parens inside)
      (gives_either (found_call inside Left word.Left (record { opens = refl; closes = refl; ends = refl }) (λ n a b m. two_at n Left a b m))
      (gives_either (found_textof inside)
      (found_call inside Contains word.Contains (record { opens = refl; closes = refl; ends = refl }) (λ n a b m. two_at n Contains a b m))))))))

  -- prefixes
  abbrev EachKind : Terminal → List Lexeme → Type 0
  EachKind t [] = Unit {0}
  EachKind t (l ∷ ls) = (l.kind ≡ t) × EachKind t ls

  abbrev Prefixes : Terminal → List Lexeme → List Lexeme → Type 0
  Prefixes t ts ls = (ts ≡ ls) × EachKind t ls

  each_more : (t : Terminal) (ls : List Lexeme) (l : Lexeme) → EachKind t ls → l.kind ≡ t → EachKind t (ls ++ l ∷ [])
  each_more t [] l h k = (k, tt)
  each_more t (m ∷ ls) l h k = (h.0, each_more t ls l h.1 k)

  found_marks : (t : Terminal) → Gives (Good bytes) bytes d (many (one t)) (Prefixes t)
  found_marks t = gives_left {Q = OnlyOf t} (gives_give (refl, tt)) (gives_one (λ l g e. (refl, e)))
      (λ xs ys ls l h k. (ap (λ r. r ++ ys) h.0 ∙ ap (λ r. ls ++ r) k.0, each_more t ls l h.1 k.1))

  abbrev prefix_level : OneOp → ℕ
  prefix_level Neg = 6
  prefix_level Not = 2
  prefix_level TextOf = 0

  neg_all : (ls ts : List Lexeme) (e : Expr) → EachKind word.Minus ls → Printable text e → Lit 6 ts e → Printable text (all_prefixed Neg ls e) × Lit 6 (ls ++ ts) (all_prefixed Neg ls e)
  neg_all [] ts e h p l = (p, l)
  neg_all (m ∷ ls) ts e h p l = let r = neg_all ls ts e h.1 p l in (printable_one m.number Neg (all_prefixed Neg ls e) r.0, lit_neg m (ls ++ ts) (all_prefixed Neg ls e) h.0 r.1)

  not_all : (ls ts : List Lexeme) (e : Expr) → EachKind word.Not ls → Printable text e → Lit 2 ts e → Printable text (all_prefixed Not ls e) × Lit 2 (ls ++ ts) (all_prefixed Not ls e)
  not_all [] ts e h p l = (p, l)
  not_all (m ∷ ls) ts e h p l = let r = not_all ls ts e h.1 p l in (printable_one m.number Not (all_prefixed Not ls e) r.0, lit_not m (ls ++ ts) (all_prefixed Not ls e) h.0 r.1)

  lit_less : (m n : ℕ) (ts : List Lexeme) (e : Expr) → m ≤ n → Lit n ts e → Lit m ts e
  lit_less m n ts e h l k i = l k (omega arith)

  found_fac : FoundInside → Found 6 (fac bytes)
  unfolding fac
  found_fac inside =
      gives_next {P = λ ts e. Printable text e × Lit 7 ts e} (gives_next {P = Prefixes word.Minus}
      (gives_give (λ xs ls h ys e k. subst (λ r. Printable text (all_prefixed Neg ls e) × Lit 6 (r ++ ys) (all_prefixed Neg ls e)) (sym h.0) (neg_all ls ys e h.1 k.0 (lit_less 6 7 ys e (omega arith) k.1)))) (found_marks word.Minus)) (found_prim inside)

  -- an operator
  abbrev IsOperator : ℕ → ℕ → ℕ → List Lexeme → TwoOp → Type 0
  IsOperator level near far ts o = (t : Terminal) × (l : Lexeme) × (ts ≡ l ∷ []) × (l.kind ≡ t) × Shape o t level near far × Plain t

  operator : (t : Terminal) (o : TwoOp) (level near far : ℕ) → Shape o t level near far → Plain t → Gives (Good bytes) bytes d (one t ▸ give o) (IsOperator level near far)
  operator t o level near far s p =
      gives_both {P = OnlyOf t} {Q = λ ts v. (ts ≡ []) × (v ≡ o)} (gives_one (λ l g e. (refl, e))) (gives_give (refl, refl))
      (λ xs ys l v h k. (t, l, ap (λ r. r ++ ys) h.0 ∙ ap (λ r. l ∷ r) k.0, h.1, subst (λ r. Shape r t level near far) (sym k.1) s, p))

  -- an operator and its right operand
  abbrev Behind : ℕ → ℕ → ℕ → List Lexeme → TwoOp × Expr → Type 0
  Behind level near far ts z =
      (t : Terminal) × (l : Lexeme) × (ys : List Lexeme) × (ts ≡ l ∷ ys) × (l.kind ≡ t) × Shape z.0 t level near far × Plain t × Printable text z.1 × Light 0 0 (kinds ys) (marks (expr_pieces z.1 far))

  found_behind : {p : Part TwoOp} {q : Part Expr} (level near far : ℕ) → Gives (Good bytes) bytes d p (IsOperator level near far) → Found far q
      → Gives (Good bytes) bytes d (give with_op ⊛ p ⊛ q) (Behind level near far)
  found_behind level near far y x =
      gives_next {P = λ ts e. Printable text e × Lit far ts e} (gives_next {P = IsOperator level near far}
      (gives_give (λ xs o h ys e k. (h.0, h.1, ys, ap (λ r. r ++ ys) h.2, h.3, h.4, h.5, k.0, k.1 far (omega arith)))) y) x

  found_pair : (level near far : ℕ) (xs ys : List Lexeme) (a : Expr) (z : TwoOp × Expr) → near ≤ level → Printable text a × Lit level xs a → Behind level near far ys z
      → Printable text (paired_by a z) × Lit level (xs ++ ys) (paired_by a z)
  found_pair level near far xs ys a z n h k = (
    printable_two a.token z.0 a z.1 h.0 k.7,
    lit_two a.token z.0 k.0 level near far a z.1 k.1 xs k.2 (xs ++ ys) k.5 k.6 k.4 (ap (λ r. xs ++ r) k.3) (h.1 near n) k.8,
  )

  found_less : {p : Part Expr} (m n : ℕ) → m ≤ n → Found n p → Found m p
  found_less m n l x = record { given = λ ts v g i. (let r = x.given ts v g i in (r.0, lit_less m n ts v l r.1)) }

  found_term : FoundInside → Found 5 (term bytes)
  unfolding term term_op
  found_term inside =
      gives_left {Q = Behind 5 5 6} (found_less 5 6 (omega arith) (found_fac inside)) (found_behind 5 5 6
      (gives_either (operator word.Star Mul 5 5 6 (λ x y n. refl) (record { opens = refl; closes = refl; ends = refl }))
      (gives_either (operator word.Slash Div 5 5 6 (λ x y n. refl) (record { opens = refl; closes = refl; ends = refl })) (operator word.Percent Rem 5 5 6 (λ x y n. refl) (record { opens = refl; closes = refl; ends = refl }))))
      (found_fac inside)) (λ xs ys a z h k. found_pair 5 5 6 xs ys a z (omega arith) h k)

  pub found_sum : FoundInside → Found 4 (sum bytes)
  unfolding sum sum_op
  found_sum inside =
      gives_left {Q = Behind 4 4 5} (found_less 4 5 (omega arith) (found_term inside)) (found_behind 4 4 5
      (gives_either (operator word.Plus Add 4 4 5 (λ x y n. refl) (record { opens = refl; closes = refl; ends = refl }))
      (gives_either (operator word.Minus Sub 4 4 5 (λ x y n. refl) (record { opens = refl; closes = refl; ends = refl })) (operator word.Bars Join 4 4 5 (λ x y n. refl) (record { opens = refl; closes = refl; ends = refl }))))
      (found_term inside)) (λ xs ys a z h k. found_pair 4 4 5 xs ys a z (omega arith) h k)

  -- comparisons
  abbrev pub IsComparison : List Lexeme → Op → Type 0
  IsComparison ts o = (l : Lexeme) × (ts ≡ l ∷ []) × (l.kind ≡ op_word o)

  comparison : (o : Op) → Gives (Good bytes) bytes d (one (op_word o) ▸ give o) IsComparison
  comparison o =
      gives_both {P = OnlyOf (op_word o)} {Q = λ ts v. (ts ≡ []) × (v ≡ o)} (gives_one (λ l g e. (refl, e))) (gives_give (refl, refl))
      (λ xs ys l v h k. (l, ap (λ r. r ++ ys) h.0 ∙ ap (λ r. l ∷ r) k.0, h.1 ∙ ap op_word (sym k.1)))

  pub found_op : Gives (Good bytes) bytes d (op bytes) IsComparison
  unfolding op
  found_op = gives_either (comparison Eq) (gives_either (comparison Ne) (gives_either (comparison Lt) (gives_either (comparison Le) (gives_either (comparison Gt) (comparison Ge)))))

  abbrev SomeBehind : List Lexeme → Option (Op × Expr) → Type 0
  SomeBehind ts None = ts ≡ []
  SomeBehind ts (Some z) = (l : Lexeme) × (ys : List Lexeme) × (ts ≡ l ∷ ys) × (l.kind ≡ op_word z.0) × Printable text z.1 × Lit 4 ys z.1

  found_compared : (xs ys : List Lexeme) (a : Expr) (z : Option (Op × Expr)) → Printable text a × Lit 4 xs a → SomeBehind ys z → Printable text (compared a z) × Lit 3 (xs ++ ys) (compared a z)
  found_compared xs ys a None h k = (h.0, subst (λ r. Lit 3 r a) (sym (append-nil xs) ∙ ap (λ r. xs ++ r) (sym k)) (lit_less 3 4 xs a (omega arith) h.1))
  found_compared xs ys a (Some z) h k = (
    printable_two a.token (Compare z.0) a z.1 h.0 k.4,
    lit_two a.token (Compare z.0) (op_word z.0) 3 4 4 a z.1 k.0 xs k.1 (xs ++ ys) (λ x y n. refl) (plain_op z.0) k.3 (ap (λ r. xs ++ r) k.2) (h.1 4 (omega arith)) (k.5 4 (omega arith)),
  )

  found_comp : FoundInside → Found 3 (comp bytes)
  unfolding comp
  found_comp inside =
      gives_next {P = SomeBehind} (gives_next {P = λ ts e. Printable text e × Lit 4 ts e} (gives_give (λ xs a h ys z k. found_compared xs ys a z h k)) (found_sum inside))
      (gives_either (gives_next {P = λ ts z. SomeBehind ts (Some z)} (gives_give (λ ys z h. h)) (gives_next {P = λ ts e. Printable text e × Lit 4 ts e} (gives_next {P = IsComparison}
      (gives_give (λ xs o h ys e k. (h.0, ys, ap (λ r. r ++ ys) h.1, h.2, k.0, k.1))) found_op) (found_sum inside))) (gives_give refl))

  found_neg : FoundInside → Found 2 (neg bytes)
  unfolding neg
  found_neg inside =
      gives_next {P = λ ts e. Printable text e × Lit 3 ts e} (gives_next {P = Prefixes word.Not}
      (gives_give (λ xs ls h ys e k. subst (λ r. Printable text (all_prefixed Not ls e) × Lit 2 (r ++ ys) (all_prefixed Not ls e)) (sym h.0) (not_all ls ys e h.1 k.0 (lit_less 2 3 ys e (omega arith) k.1)))) (found_marks word.Not)) (found_comp inside)

  -- a word and the operand behind it
  abbrev After : Terminal → ℕ → List Lexeme → Expr → Type 0
  After t far ts b = (l : Lexeme) × (ys : List Lexeme) × (ts ≡ l ∷ ys) × (l.kind ≡ t) × Printable text b × Lit far ys b

  found_after : {q : Part Expr} (t : Terminal) (far : ℕ) → Found far q → Gives (Good bytes) bytes d (one t ▸ q) (After t far)
  found_after t far x = gives_both {P = OnlyOf t} (gives_one (λ l g e. (refl, e))) x (λ xs ys l b h k. (l, ys, ap (λ r. r ++ ys) h.0, h.1, k.0, k.1))

  found_conj : FoundInside → Found 1 (conj bytes)
  unfolding conj
  found_conj inside = gives_left {Q = After word.And 2} (found_less 1 2 (omega arith) (found_neg inside)) (found_after word.And 2 (found_neg inside)) (λ xs ys a b h k. (
    printable_two a.token And a b h.0 k.4,
    lit_two a.token And word.And 1 1 2 a b k.0 xs k.1 (xs ++ ys) (λ x y n. refl) (record { opens = refl; closes = refl; ends = refl }) k.3 (ap (λ r. xs ++ r) k.2) (h.1 1 (omega arith)) (k.5 2 (omega arith)),
  ))

  pub found_expr : FoundInside → Found 0 (expr bytes)
  unfolding expr
  found_expr inside = gives_left {Q = After word.Or 1} (found_less 0 1 (omega arith) (found_conj inside)) (found_after word.Or 1 (found_conj inside)) (λ xs ys a b h k. (
    printable_two a.token Or a b h.0 k.4,
    lit_two a.token Or word.Or 0 0 1 a b k.0 xs k.1 (xs ++ ys) (λ x y n. refl) (record { opens = refl; closes = refl; ends = refl }) k.3 (ap (λ r. xs ++ r) k.2) (h.1 0 (omega arith)) (k.5 1 (omega arith)),
  ))

-- to any depth
pub found_inside : (bytes text : List ℕ) (d : ℕ) → Gives (Good bytes) bytes d expression (λ ts e. Printable text e × Lit 0 ts e)
unfolding inner
found_inside bytes text zero = record { given = λ ts v g i. absurd i }
found_inside bytes text (suc d) = record { given = λ ts v g i. (found_expr bytes text d (found_inside bytes text d)).given ts v g i }
