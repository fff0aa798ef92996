-- What stands one level further in.
use Rattle.std.proofs.Common.{◌≡◌, ℕ, zero, suc, ◌<◌, ◌-◌, List, Err, length, refl, arith}
use Rattle.mv_ast.specs.declared.lexeme.Lexeme.{Lexeme}
use Rattle.mv_ast.specs.Grammar.{expr, stmt}
use Rattle.mv_parser.specs.Reading.{inside, read}

pub inside_expr : (bytes : List ℕ) (d : ℕ) (ts : List Lexeme) → 0 < d → (inside bytes d).expr ts ≡ read (inside bytes (d - 1)) (expr bytes) ts
unfolding inside
inside_expr bytes zero ts h = absurd (omega arith)
inside_expr bytes (suc d) ts h = let e : suc d - 1 ≡ d = omega arith in rw e refl

pub inside_stmt : (bytes : List ℕ) (d : ℕ) (ts : List Lexeme) → 0 < d → (inside bytes d).stmt ts ≡ read (inside bytes (d - 1)) (stmt bytes) ts
unfolding inside
inside_stmt bytes zero ts h = absurd (omega arith)
inside_stmt bytes (suc d) ts h = let e : suc d - 1 ≡ d = omega arith in rw e refl

pub inside_none : (bytes : List ℕ) (ts : List Lexeme) → (inside bytes 0).expr ts ≡ Err (length ts)
unfolding inside
inside_none bytes ts = refl

pub inside_no_stmt : (bytes : List ℕ) (ts : List Lexeme) → (inside bytes 0).stmt ts ≡ Err (length ts)
unfolding inside
inside_no_stmt bytes ts = refl
