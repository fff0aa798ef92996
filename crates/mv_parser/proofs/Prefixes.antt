-- Operators put before an expression.
use Rattle.std.proofs.Common.{◌≡◌, List, [], ◌∷◌, ◌++◌, refl, sym, ap, ◌∙◌}
use Rattle.mv_ast.specs.declared.lexeme.Lexeme.{Lexeme}
use Rattle.mv_ast.specs.declared.tree.Expr.{Expr}
use Rattle.mv_ast.specs.declared.tree.OneOp.{OneOp}
use Rattle.mv_ast.specs.Trees.{prefixed, all_prefixed}

prefixed_last : (o : OneOp) (ls : List Lexeme) (l : Lexeme) (e : Expr) → all_prefixed o (ls ++ l ∷ []) e ≡ all_prefixed o ls (prefixed o l.number e)
prefixed_last o [] l e = refl
prefixed_last o (k ∷ ls) l e = ap (prefixed o k.number) (prefixed_last o ls l e)

pub prefixed_kept : (o : OneOp) (all ls : List Lexeme) (l : Lexeme) (e next whole : Expr) → all ≡ ls ++ l ∷ [] → next ≡ prefixed o l.number e
    → all_prefixed o all e ≡ whole → all_prefixed o ls next ≡ whole
prefixed_kept o all ls l e next whole a n w = rw n (sym (ap (λ r. all_prefixed o r e) a ∙ prefixed_last o ls l e) ∙ w)
