-- A part inside another takes fewer tokens, so no more levels than tokens are needed.
use Rattle.std.proofs.Common.{◌≡◌, ℕ, zero, suc, ◌+◌, ◌<◌, ◌≤◌, Bool, true, false, cond, List, [], ◌∷◌, ◌++◌, inl, inr, length, refl, sym, ap, subst, ◌∙◌, length-append, arith}
use Rattle.mv_ast.specs.declared.lexeme.Lexeme.{Lexeme}
use Rattle.mv_ast.specs.declared.tree.Expr.{Expr}
use Rattle.mv_ast.specs.declared.tree.Script.{Script}
use Rattle.mv_ast.specs.declared.tree.Stmt.{Stmt}
use Rattle.mv_ast.specs.Parts.{Part, give, one, both, either, left, expression, statement, Inner, Is, Begins, Pieces}
use Rattle.mv_ast.specs.Grammar.{inner, expr, stmt, script}
use Rattle.mv_parser.specs.Reading.{is_nullable}
use Rattle.mv_parser.proofs.Again.{InnerHeads, heads, length_first}
use Rattle.mv_parser.proofs.Begun.{begun_none}
use Rattle.mv_parser.proofs.Whole.{inner_heads, expr_guarded, stmt_guarded, script_guarded}
use Rattle.mv_parser.proofs.Guarded.{is_guarded}
use Rattle.mv_parser.proofs.Levels.{inner_begun}

-- what stands inside and has fewer than n tokens is or begins the same by both
pub record Carries (n : ℕ) (R S : Inner) : Type 0 where
  pub is_expr : (ts : List Lexeme) (v : Expr) → length ts < n → R.is_expression ts v → S.is_expression ts v
  pub is_stmt : (ts : List Lexeme) (v : Stmt) → length ts < n → R.is_statement ts v → S.is_statement ts v
  pub begins_expr : (ts : List Lexeme) → length ts < n → R.begins_expression ts → S.begins_expression ts
  pub begins_stmt : (ts : List Lexeme) → length ts < n → R.begins_statement ts → S.begins_statement ts

-- so many tokens leave room: one more where what stands inside stands behind a token
abbrev pub Room : ℕ → Bool → ℕ → Type 0
Room n g k = k < n + cond g 1 0

room_first : (n : ℕ) (g h : Bool) (j k m : ℕ) → m ≡ j + k → Room n (cond g h false) m → Room n g j
room_first n true true j k m e r = omega arith
room_first n true false j k m e r = omega arith
room_first n false h j k m e r = omega arith

-- behind what may be empty, or has a token
room_behind : (n : ℕ) (g e h : Bool) (j k m : ℕ) → m ≡ j + k → (e ≡ false → 1 ≤ j) → Room n (cond g (cond e h true) false) m → Room n h k
room_behind n true true true j k m s f r = omega arith
room_behind n true true false j k m s f r = omega arith
room_behind n true false true j k m s f r = omega arith
room_behind n true false false j k m s f r = let one_more = f refl in omega arith
room_behind n false e true j k m s f r = omega arith
room_behind n false e false j k m s f r = omega arith

room_second : (n : ℕ) (g h : Bool) (m : ℕ) → Room n (cond g h false) m → Room n h m
room_second n true h m r = r
room_second n false true m r = omega arith
room_second n false false m r = r

room_less : (n : ℕ) (h : Bool) (j k m : ℕ) → m ≡ j + k → Room n h m → Room n h j × Room n h k
room_less n true j k m e r = (omega arith, omega arith)
room_less n false j k m e r = (omega arith, omega arith)

has_token : {A : Type 0} (R : Inner) → InnerHeads R → (p : Part A) (ts : List Lexeme) (v : A) → Is R p ts v → is_nullable p ≡ false → 1 ≤ length ts
has_token R s p ts v i n = length_first p ts n (heads R s p ts v i)

split : (ts xs ys : List Lexeme) → ts ≡ xs ++ ys → length ts ≡ length xs + length ys
split ts xs ys e = ap length e ∙ length-append xs ys

pieces_carried : {B : Type 0} (n : ℕ) (g : Bool) (P Q : List Lexeme → B → Type 0) → ((ts : List Lexeme) (v : B) → Room n g (length ts) → P ts v → Q ts v)
    → (bs : List B) (ts : List Lexeme) → Room n g (length ts) → Pieces P ts bs → Pieces Q ts bs
pieces_carried n g P Q c [] ts r p = p
pieces_carried n g P Q c (b ∷ bs) ts r p =
    let rooms = room_less n g (length p.0) (length p.1) (length ts) (split ts p.0 p.1 p.2) r in
    (p.0, p.1, p.2, c p.0 b rooms.0 p.3, pieces_carried n g P Q c bs p.1 rooms.1 p.4)

is_carried : {A : Type 0} (n : ℕ) (R S : Inner) → InnerHeads R → Carries n R S → (p : Part A) (ts : List Lexeme) (v : A) → Room n (is_guarded p) (length ts) → Is R p ts v → Is S p ts v
is_carried n R S h c (give a) ts v r i = i
is_carried n R S h c (one t) ts v r i = i
is_carried n R S h c (both f p q) ts v r i =
    let s = split ts i.0 i.1 i.4 in
    let rp = room_first n (is_guarded p) (cond (is_nullable p) (is_guarded q) true) (length i.0) (length i.1) (length ts) s r in
    let rq = room_behind n (is_guarded p) (is_nullable p) (is_guarded q) (length i.0) (length i.1) (length ts) s (has_token R h p i.0 i.2 i.5) r in
    (i.0, i.1, i.2, i.3, i.4, is_carried n R S h c p i.0 i.2 rp i.5, is_carried n R S h c q i.1 i.3 rq i.6, i.7)
is_carried n R S h c (either p q) ts v r i =
    elim i [
      | inl w ↦ inl (is_carried n R S h c p ts v (room_first n (is_guarded p) (is_guarded q) (length ts) 0 (length ts) (omega arith) r) w)
      | inr w ↦ inr (is_carried n R S h c q ts v (room_second n (is_guarded p) (is_guarded q) (length ts) r) w)
    ]
is_carried n R S h c (left f p q) ts v r i =
    let s = split ts i.0 i.1 i.4 in
    let rp = room_first n (is_guarded p) (cond (is_nullable p) (is_guarded q) true) (length i.0) (length i.1) (length ts) s r in
    let rq = room_behind n (is_guarded p) (is_nullable p) (is_guarded q) (length i.0) (length i.1) (length ts) s (has_token R h p i.0 i.2 i.5) r in
    (i.0, i.1, i.2, i.3, i.4, is_carried n R S h c p i.0 i.2 rp i.5, pieces_carried n (is_guarded q) (Is R q) (Is S q) (is_carried n R S h c q) i.3 i.1 rq i.6, i.7)
is_carried n R S h c expression ts v r i = c.is_expr ts v (omega arith) i
is_carried n R S h c statement ts v r i = c.is_stmt ts v (omega arith) i

begins_carried : {A : Type 0} (n : ℕ) (R S : Inner) → InnerHeads R → Carries n R S → (p : Part A) (ts : List Lexeme) → Room n (is_guarded p) (length ts) → Begins R p ts → Begins S p ts
begins_carried n R S h c (give a) ts r b = b
begins_carried n R S h c (one t) ts r b = b
begins_carried n R S h c (both f p q) ts r b =
    elim b [
      | inl w ↦ inl (begins_carried n R S h c p ts (room_first n (is_guarded p) (cond (is_nullable p) (is_guarded q) true) (length ts) 0 (length ts) (omega arith) r) w)
      | inr x ↦ (
          let s = split ts x.0 x.1 x.3 in
          let rp = room_first n (is_guarded p) (cond (is_nullable p) (is_guarded q) true) (length x.0) (length x.1) (length ts) s r in
          let rq = room_behind n (is_guarded p) (is_nullable p) (is_guarded q) (length x.0) (length x.1) (length ts) s (has_token R h p x.0 x.2 x.4) r in
          inr (x.0, x.1, x.2, x.3, is_carried n R S h c p x.0 x.2 rp x.4, begins_carried n R S h c q x.1 rq x.5))
    ]
begins_carried n R S h c (either p q) ts r b =
    elim b [
      | inl w ↦ inl (begins_carried n R S h c p ts (room_first n (is_guarded p) (is_guarded q) (length ts) 0 (length ts) (omega arith) r) w)
      | inr w ↦ inr (begins_carried n R S h c q ts (room_second n (is_guarded p) (is_guarded q) (length ts) r) w)
    ]
begins_carried n R S h c (left f p q) ts r b =
    elim b [
      | inl w ↦ inl (begins_carried n R S h c p ts (room_first n (is_guarded p) (cond (is_nullable p) (is_guarded q) true) (length ts) 0 (length ts) (omega arith) r) w)
      | inr x ↦ (
          let us = x.1 ++ x.2 in
          let s = split ts x.0 us x.5 in
          let rp = room_first n (is_guarded p) (cond (is_nullable p) (is_guarded q) true) (length x.0) (length us) (length ts) s r in
          let rq = room_behind n (is_guarded p) (is_nullable p) (is_guarded q) (length x.0) (length us) (length ts) s (has_token R h p x.0 x.3 x.6) r in
          let rooms = room_less n (is_guarded q) (length x.1) (length x.2) (length us) (length-append x.1 x.2) rq in
          inr (
            x.0,
            x.1,
            x.2,
            x.3,
            x.4,
            x.5,
            is_carried n R S h c p x.0 x.3 rp x.6,
            pieces_carried n (is_guarded q) (Is R q) (Is S q) (is_carried n R S h c q) x.4 x.1 rooms.0 x.7,
            begins_carried n R S h c q x.2 rooms.1 x.8,
          ))
    ]
begins_carried n R S h c expression ts r b = c.begins_expr ts (omega arith) b
begins_carried n R S h c statement ts r b = c.begins_stmt ts (omega arith) b

-- room in a part whose inner parts all stand behind a token
guarded_room : {A : Type 0} (p : Part A) (n k : ℕ) → is_guarded p ≡ true → k ≤ n → Room n (is_guarded p) k
guarded_room p n k g l = rw g (omega arith)

carries : (bytes : List ℕ) (d m : ℕ) → Carries m (inner bytes d) (inner bytes m)
unfolding inner
carries bytes d zero = record {
  is_expr = λ ts v l i. absurd (omega arith);
  is_stmt = λ ts v l i. absurd (omega arith);
  begins_expr = λ ts l b. absurd (omega arith);
  begins_stmt = λ ts l b. absurd (omega arith);
}
carries bytes zero (suc m) = record {
  is_expr = λ ts v l i. absurd i;
  is_stmt = λ ts v l i. absurd i;
  begins_expr = λ ts l b. subst (Begins (inner bytes m) (expr bytes)) (sym b) (begun_none (inner bytes m) (inner_begun bytes m) (expr bytes));
  begins_stmt = λ ts l b. subst (Begins (inner bytes m) (stmt bytes)) (sym b) (begun_none (inner bytes m) (inner_begun bytes m) (stmt bytes));
}
carries bytes (suc d) (suc m) = record {
  is_expr = λ ts v l i. is_carried m (inner bytes d) (inner bytes m) (inner_heads bytes d) (carries bytes d m) (expr bytes) ts v (guarded_room (expr bytes) m (length ts) (expr_guarded bytes) (omega arith)) i;
  is_stmt = λ ts v l i. is_carried m (inner bytes d) (inner bytes m) (inner_heads bytes d) (carries bytes d m) (stmt bytes) ts v (guarded_room (stmt bytes) m (length ts) (stmt_guarded bytes) (omega arith)) i;
  begins_expr = λ ts l b. begins_carried m (inner bytes d) (inner bytes m) (inner_heads bytes d) (carries bytes d m) (expr bytes) ts (guarded_room (expr bytes) m (length ts) (expr_guarded bytes) (omega arith)) b;
  begins_stmt = λ ts l b. begins_carried m (inner bytes d) (inner bytes m) (inner_heads bytes d) (carries bytes d m) (stmt bytes) ts (guarded_room (stmt bytes) m (length ts) (stmt_guarded bytes) (omega arith)) b;
}

-- a script to any depth is one to as many levels as it has tokens, or more
pub enough : (bytes : List ℕ) (d m : ℕ) (ts : List Lexeme) (v : Script) → length ts ≤ m → Is (inner bytes d) (script bytes) ts v → Is (inner bytes m) (script bytes) ts v
enough bytes d m ts v l i =
    is_carried m (inner bytes d) (inner bytes m) (inner_heads bytes d) (carries bytes d m) (script bytes) ts v (guarded_room (script bytes) m (length ts) (script_guarded bytes) l) i

pub enough_begin : (bytes : List ℕ) (d m : ℕ) (ts : List Lexeme) → length ts ≤ m → Begins (inner bytes d) (script bytes) ts → Begins (inner bytes m) (script bytes) ts
enough_begin bytes d m ts l b =
    begins_carried m (inner bytes d) (inner bytes m) (inner_heads bytes d) (carries bytes d m) (script bytes) ts (guarded_room (script bytes) m (length ts) (script_guarded bytes) l) b
