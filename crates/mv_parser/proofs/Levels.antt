-- What stands inside, at each level, has the properties of a part.
use Rattle.std.proofs.Common.{◌≡◌, ℕ, zero, suc, ◌≤◌, true, List, [], ◌++◌, length, refl, sym, subst, ◌∙◌, arith}
use Rattle.mv_ast.specs.declared.lexeme.Lexeme.{Lexeme}
use Rattle.mv_ast.specs.declared.tree.Expr.{Expr}
use Rattle.mv_ast.specs.declared.tree.Stmt.{Stmt}
use Rattle.mv_ast.specs.Grammar.{inner, expr, stmt}
use Rattle.mv_parser.specs.Reading.{inside, expression_words, statement_words}
use Rattle.mv_parser.proofs.Stops.{same_left, InnerStops, stops}
use Rattle.mv_parser.proofs.Again.{Heads}
use Rattle.mv_parser.proofs.Begun.{InnerBegun, begun_none, whole_begins, begun_heads}
use Rattle.mv_parser.proofs.ReadsOn.{Level, reads_on, none_both}
use Rattle.mv_parser.proofs.Shorter.{InnerShorter, shorter}
use Rattle.mv_parser.proofs.Whole.{inner_takes, inner_heads, inner_again, expr_first, stmt_first, expr_clear, stmt_clear}

inner_stops : (bytes : List ℕ) (d : ℕ) → InnerStops (inner bytes d) (inside bytes d)
unfolding inner inside
inner_stops bytes zero = record {
  expr = λ ts n h. ([], ts, refl, same_left {A = Expr} (length ts) n h, refl);
  stmt = λ ts n h. ([], ts, refl, same_left {A = Stmt} (length ts) n h, refl);
}
inner_stops bytes (suc d) = record {
  expr = stops (inner bytes d) (inside bytes d) (inner_takes bytes d) (inner_stops bytes d) (expr bytes);
  stmt = stops (inner bytes d) (inside bytes d) (inner_takes bytes d) (inner_stops bytes d) (stmt bytes);
}

pub inner_begun : (bytes : List ℕ) (d : ℕ) → InnerBegun (inner bytes d)
unfolding inner
inner_begun bytes zero = record {
  no_expr = refl;
  no_stmt = refl;
  expr = λ ts v i. absurd i;
  stmt = λ ts v i. absurd i;
  expr_heads = λ ts b. subst (Heads true expression_words) (sym b) refl;
  stmt_heads = λ ts b. subst (Heads true statement_words) (sym b) refl;
}
inner_begun bytes (suc d) = record {
  no_expr = begun_none (inner bytes d) (inner_begun bytes d) (expr bytes);
  no_stmt = begun_none (inner bytes d) (inner_begun bytes d) (stmt bytes);
  expr = λ ts v i. whole_begins (inner bytes d) (inner_begun bytes d) (expr bytes) ts v i;
  stmt = λ ts v i. whole_begins (inner bytes d) (inner_begun bytes d) (stmt bytes) ts v i;
  expr_heads = λ ts b. subst (λ ks. Heads true ks ts) (expr_first bytes) (begun_heads (inner bytes d) (inner_heads bytes d) (inner_begun bytes d) (expr bytes) ts b);
  stmt_heads = λ ts b. subst (λ ks. Heads true ks ts) (stmt_first bytes) (begun_heads (inner bytes d) (inner_heads bytes d) (inner_begun bytes d) (stmt bytes) ts b);
}

none_left : (ts post : List Lexeme) → ts ≡ [] → length (ts ++ post) ≤ length post
none_left ts post e = subst (λ r. length (r ++ post) ≤ length post) (sym e) (omega arith)

pub level : (bytes : List ℕ) (d : ℕ) → Level (inner bytes d) (inside bytes d)
unfolding inner inside
level bytes zero = record {
  takes = inner_takes bytes zero;
  stops = inner_stops bytes zero;
  heads = inner_heads bytes zero;
  again = inner_again bytes zero;
  begun = inner_begun bytes zero;
  expr_on = λ ts b post. none_left ts post b;
  stmt_on = λ ts b post. none_left ts post b;
}
level bytes (suc d) = record {
  takes = inner_takes bytes (suc d);
  stops = inner_stops bytes (suc d);
  heads = inner_heads bytes (suc d);
  again = inner_again bytes (suc d);
  begun = inner_begun bytes (suc d);
  expr_on = reads_on (inner bytes d) (inside bytes d) (level bytes d) (expr bytes) (expr_clear bytes);
  stmt_on = reads_on (inner bytes d) (inside bytes d) (level bytes d) (stmt bytes) (stmt_clear bytes);
}

pub inner_shorter : (bytes : List ℕ) (d : ℕ) → InnerShorter (inner bytes d)
unfolding inner
inner_shorter bytes zero = record {
  expr = λ ts xs ys b e. (none_both xs ys (sym e ∙ b)).0;
  stmt = λ ts xs ys b e. (none_both xs ys (sym e ∙ b)).0;
}
inner_shorter bytes (suc d) = record {
  expr = shorter (inner bytes d) (inner_begun bytes d) (inner_shorter bytes d) (expr bytes);
  stmt = shorter (inner bytes d) (inner_begun bytes d) (inner_shorter bytes d) (stmt bytes);
}
