-- Expressions by the levels of their operators.
use Rattle.std.specs.Prelude.{ℕ, List, [], ◌∷◌}
use Rattle.mv_values.specs.declared.op.Op.{Op}
use Rattle.mv_ast.specs.declared.lexeme.Terminal.{Terminal}
use Rattle.mv_ast.specs.declared.lexeme.Terminal.TheVariants as word
use Rattle.mv_ast.specs.declared.tree.Expr.{Expr}
use Rattle.mv_ast.specs.declared.tree.TwoOp.{TwoOp}
use Rattle.mv_ast.specs.declared.tree.TwoOp.TheVariants.{And, Or, Compare}
use Rattle.mv_ast.specs.Parts.{Part, give, one, left}
use Rattle.mv_ast.specs.Trees.{paired_by, with_op}
use Rattle.mv_ast.specs.Grammar.{◌▸◌, ◌⊛◌, conj, neg, term, fac, sum_op, term_op}
use Rattle.mv_parser.specs.declared.level.Level.{Level}
use Rattle.mv_parser.specs.declared.level.Level.TheVariants as level

-- the tokens that are operators of a level
abbrev pub marks : Level → List Terminal
marks level.Or = word.Or ∷ []
marks level.And = word.And ∷ []
marks level.Sum = word.Plus ∷ word.Minus ∷ word.Bars ∷ []
marks level.Term = word.Star ∷ word.Slash ∷ word.Percent ∷ []

abbrev pub operator : List ℕ → Level → Part TwoOp
operator bytes level.Or = one word.Or ▸ give Or
operator bytes level.And = one word.And ▸ give And
operator bytes level.Sum = sum_op bytes
operator bytes level.Term = term_op bytes

abbrev pub operand : List ℕ → Level → Part Expr
operand bytes level.Or = conj bytes
operand bytes level.And = neg bytes
operand bytes level.Sum = term bytes
operand bytes level.Term = fac bytes

-- an operator and the operand after it
abbrev pub next : List ℕ → Level → Part (TwoOp × Expr)
next bytes l = give with_op ⊛ operator bytes l ⊛ operand bytes l

-- operands and operators, left-associative
abbrev pub chain : List ℕ → Level → Part Expr
chain bytes l = left paired_by (operand bytes l) (next bytes l)

-- a comparison as a binary operator
abbrev pub with_compare : Op × Expr → TwoOp × Expr
with_compare x = (Compare x.0, x.1)
