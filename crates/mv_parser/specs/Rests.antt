-- The rest of a statement after its first parts, for any function of the rest.
use Rattle.std.specs.Prelude.{ℕ, List, Option}
use Rattle.mv_ast.specs.declared.lexeme.Terminal.TheVariants as word
use Rattle.mv_ast.specs.declared.tree.Cond.{Cond}
use Rattle.mv_ast.specs.declared.tree.Expr.{Expr}
use Rattle.mv_ast.specs.declared.tree.Name.{Name}
use Rattle.mv_ast.specs.declared.tree.Sort.{Sort}
use Rattle.mv_ast.specs.declared.tree.Stmt.{Stmt}
use Rattle.mv_ast.specs.Parts.{Part, give, one, expression, statement}
use Rattle.mv_ast.specs.Grammar.{◌⊛◌, ◌◂◌, ◌▸◌, many, optional, name, variable, conds, sorts, loop_body, otherwise}

-- SELECT of columns, starting at FROM
abbrev pub select_rest : List ℕ → (Name → List Cond → List Sort → Option Expr → ℕ → Stmt) → Part (ℕ → Stmt)
select_rest bytes f = give f ◂ one word.From ⊛ name bytes ⊛ conds bytes ⊛ sorts bytes ⊛ optional (one word.Offset ▸ expression) ◂ one word.Semicolon

-- SELECT of an aggregate, starting at INTO
abbrev pub total_rest : List ℕ → (Name → Name → List Cond → ℕ → Stmt) → Part (ℕ → Stmt)
total_rest bytes f = give f ◂ one word.Into ⊛ variable bytes ◂ one word.From ⊛ name bytes ⊛ conds bytes ◂ one word.Semicolon

-- FOR over the rows of a table, starting at FROM
abbrev pub plain_rest : List ℕ → (Name → List Cond → List Sort → List Stmt → ℕ → Name → Stmt) → Part (ℕ → Name → Stmt)
plain_rest bytes f = give f ◂ one word.From ⊛ name bytes ⊛ conds bytes ⊛ sorts bytes ⊛ loop_body bytes

abbrev pub distinct_rest : List ℕ → (Name → List Cond → List Stmt → ℕ → Name → Stmt) → Part (ℕ → Name → Stmt)
distinct_rest bytes f = give f ◂ one word.From ⊛ name bytes ⊛ conds bytes ⊛ loop_body bytes

-- IF, starting at THEN
abbrev pub branches : List ℕ → (List Stmt → List Stmt → Stmt) → Part Stmt
branches bytes f = give f ◂ one word.Then ⊛ many statement ⊛ otherwise bytes ◂ one word.End ◂ one word.If ◂ one word.Semicolon
