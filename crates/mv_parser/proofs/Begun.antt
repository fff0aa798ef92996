-- What begins a part: no token at all, the whole of it, and otherwise a token that it can begin with.
use Rattle.std.proofs.Common.{Bool, true, false, cond, List, [], ◌∷◌, ◌++◌, inl, inr, refl, sym, ap, subst, ◌∙◌, append-nil}
use Rattle.mv_ast.specs.declared.lexeme.Lexeme.{Lexeme}
use Rattle.mv_ast.specs.declared.lexeme.Terminal.{Terminal}
use Rattle.mv_ast.specs.declared.tree.Expr.{Expr}
use Rattle.mv_ast.specs.declared.tree.Stmt.{Stmt}
use Rattle.mv_ast.specs.Parts.{Part, give, one, both, either, left, expression, statement, Inner, Is, Begins}
use Rattle.mv_parser.specs.Reading.{first, is_nullable, expression_words, statement_words}
use Rattle.mv_parser.proofs.Basics.{among_left, kind_same}
use Rattle.mv_parser.proofs.Again.{Heads, InnerHeads, heads, heads_left, heads_right, heads_pieces, heads_more}

pub record InnerBegun (R : Inner) : Type 0 where
  pub no_expr : R.begins_expression []
  pub no_stmt : R.begins_statement []
  pub expr : (ts : List Lexeme) (v : Expr) → R.is_expression ts v → R.begins_expression ts
  pub stmt : (ts : List Lexeme) (v : Stmt) → R.is_statement ts v → R.begins_statement ts
  pub expr_heads : (ts : List Lexeme) → R.begins_expression ts → Heads true expression_words ts
  pub stmt_heads : (ts : List Lexeme) → R.begins_statement ts → Heads true statement_words ts

pub begun_none : {A : Type 0} (R : Inner) → InnerBegun R → (p : Part A) → Begins R p []
begun_none R b (give a) = refl
begun_none R b (one t) = inl refl
begun_none R b (both f p q) = inl (begun_none R b p)
begun_none R b (either p q) = inl (begun_none R b p)
begun_none R b (left f p q) = inl (begun_none R b p)
begun_none R b expression = b.no_expr
begun_none R b statement = b.no_stmt

pub whole_begins : {A : Type 0} (R : Inner) → InnerBegun R → (p : Part A) (ts : List Lexeme) (v : A) → Is R p ts v → Begins R p ts
whole_begins R b (give a) ts v i = i.0
whole_begins R b (one t) ts v i = inr (v, i.0, i.1)
whole_begins R b (both f p q) ts v i = inr (i.0, i.1, i.2, i.4, i.5, whole_begins R b q i.1 i.3 i.6)
whole_begins R b (either p q) ts v i =
    elim i [
      | inl w ↦ inl (whole_begins R b p ts v w)
      | inr w ↦ inr (whole_begins R b q ts v w)
    ]
whole_begins R b (left f p q) ts v i = inr (i.0, i.1, [], i.2, i.3, i.4 ∙ ap (λ r. i.0 ++ r) (sym (append-nil i.1)), i.5, i.6, begun_none R b q)
whole_begins R b expression ts v i = b.expr ts v i
whole_begins R b statement ts v i = b.stmt ts v i

-- the first token, where there is one
heads_weaker : (m : Bool) (ks : List Terminal) (ts : List Lexeme) → Heads m ks ts → Heads true ks ts
heads_weaker m ks [] h = refl
heads_weaker m ks (l ∷ ts) h = h

heads_behind : (m : Bool) (js ks : List Terminal) (ts : List Lexeme) → Heads true js ts → Heads true (cond m (js ++ ks) js) ts
heads_behind m js ks [] h = refl
heads_behind true js ks (l ∷ ts) h = among_left js ks l.kind h
heads_behind false js ks (l ∷ ts) h = h

pub heads_append : (ks : List Terminal) (ys zs : List Lexeme) → Heads true ks ys → Heads true ks zs → Heads true ks (ys ++ zs)
heads_append ks [] zs h i = i
heads_append ks (l ∷ ys) zs h i = h

pub begun_heads : {A : Type 0} (R : Inner) → InnerHeads R → InnerBegun R → (p : Part A) (ts : List Lexeme) → Begins R p ts → Heads true (first p) ts
begun_heads R s c (give a) ts b = subst (Heads true []) (sym b) refl
begun_heads R s c (one t) ts b =
    elim b [
      | inl e ↦ subst (Heads true (t ∷ [])) (sym e) refl
      | inr x ↦ subst (Heads true (t ∷ [])) (sym x.1) (rw (kind_same x.0.kind t x.2) refl)
    ]
begun_heads R s c (both f p q) ts b =
    elim b [
      | inl w ↦ heads_behind (is_nullable p) (first p) (first q) ts (begun_heads R s c p ts w)
      | inr x ↦ subst (Heads true (first (both f p q))) (sym x.3) (heads_weaker (is_nullable p) (first (both f p q)) (x.0 ++ x.1)
          (heads_more (is_nullable p) (first p) (first q) x.0 x.1 (heads R s p x.0 x.2 x.4) (begun_heads R s c q x.1 x.5)))
    ]
begun_heads R s c (either p q) ts b =
    elim b [
      | inl w ↦ heads_left true true (first p) (first q) ts (begun_heads R s c p ts w)
      | inr w ↦ heads_right true true (first p) (first q) ts (begun_heads R s c q ts w)
    ]
begun_heads R s c (left f p q) ts b =
    elim b [
      | inl w ↦ heads_behind (is_nullable p) (first p) (first q) ts (begun_heads R s c p ts w)
      | inr x ↦ (
          let more = heads_pieces (is_nullable p) (is_nullable q) (first p) (first q) (Is R q) (λ us v j. heads R s q us v j) x.4 x.1 x.7 in
          subst (Heads true (first (left f p q))) (sym x.5) (heads_weaker (is_nullable p) (first (left f p q)) (x.0 ++ (x.1 ++ x.2))
          (heads_more (is_nullable p) (first p) (first q) x.0 (x.1 ++ x.2) (heads R s p x.0 x.3 x.6)
          (heads_append (first q) x.1 x.2 more (begun_heads R s c q x.2 x.8)))))
    ]
begun_heads R s c expression ts b = c.expr_heads ts b
begun_heads R s c statement ts b = c.stmt_heads ts b
