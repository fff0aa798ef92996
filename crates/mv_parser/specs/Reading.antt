-- Reading a part of the grammar from left to right, as a function on lists.
use Rattle.std.specs.Prelude.{ℕ, zero, suc, Bool, true, false, List, [], ◌∷◌, ◌++◌, Result, Ok, Err, length, if◌then◌else◌}
use Rattle.mv_ast.specs.declared.lexeme.Lexeme.{Lexeme}
use Rattle.mv_ast.specs.declared.lexeme.Terminal.{Terminal}
use Rattle.mv_ast.specs.declared.lexeme.Terminal.TheVariants as word
use Rattle.mv_ast.specs.contracts.lexeme.Terminal.{the_type}
use denote.Enum.Bare.{sameb}
use Rattle.mv_ast.specs.declared.tree.Expr.{Expr}
use Rattle.mv_ast.specs.declared.tree.Stmt.{Stmt}
use Rattle.mv_ast.specs.Parts.{Part, give, one, both, either, left, expression, statement}
use Rattle.mv_ast.specs.Grammar.{expr, stmt}

-- the value read and the tokens after it, or how many tokens there are from the first wrong one to the end
abbrev pub Read : Type 0 → Type 0
Read A = Result (A × List Lexeme) ℕ

infixl 10 ◌>>=◌
abbrev pub ◌>>=◌ : {A B : Type 0} → Result A ℕ → (A → Result B ℕ) → Result B ℕ
(Ok x) >>= f = f x
(Err e) >>= f = Err e

-- whether the kind is one of these
abbrev pub is_among : List Terminal → Terminal → Bool
is_among [] t = false
is_among (k ∷ ks) t = if sameb the_type t k then true else is_among ks t

abbrev pub starts_with : List Terminal → List Lexeme → Bool
starts_with ks [] = false
starts_with ks (l ∷ ts) = is_among ks l.kind

-- the kinds with which an expression or a statement begins
abbrev pub expression_words : List Terminal
expression_words = word.Not ∷ word.Minus ∷ word.Number ∷ word.Quoted ∷ word.Variable ∷ word.Name ∷ word.Open ∷ word.Left ∷ word.TextOf ∷ word.Contains ∷ []

abbrev pub statement_words : List Terminal
statement_words = word.Set ∷ word.Select ∷ word.For ∷ word.If ∷ word.Insert ∷ word.Update ∷ word.Delete ∷ word.Print ∷ word.Rollback ∷ []

-- whether a part may be empty
abbrev pub is_nullable : {A : Type 0} → Part A → Bool
is_nullable (give a) = true
is_nullable (one t) = false
is_nullable (both f p q) = if is_nullable p then is_nullable q else false
is_nullable (either p q) = if is_nullable p then true else is_nullable q
is_nullable (left f p q) = is_nullable p
is_nullable expression = false
is_nullable statement = false

-- the kinds with which a part begins
abbrev pub first : {A : Type 0} → Part A → List Terminal
first (give a) = []
first (one t) = t ∷ []
first (both f p q) = if is_nullable p then first p ++ first q else first p
first (either p q) = first p ++ first q
first (left f p q) = if is_nullable p then first p ++ first q else first p
first expression = expression_words
first statement = statement_words

abbrev pub read_one : Terminal → List Lexeme → Read Lexeme
read_one t [] = Err 0
read_one t (l ∷ ts) = if sameb the_type l.kind t then Ok (l, ts) else Err (length (l ∷ ts))

-- reads further pieces, at most so many, as long as the next token begins one
unfoldable pub more : {A B : Type 0} → ℕ → (A → B → A) → List Terminal → (List Lexeme → Read B) → A → List Lexeme → Read A
more zero f ks piece a ts = Ok (a, ts)
more (suc m) f ks piece a ts = if starts_with ks ts then (piece ts >>= (λ x. more m f ks piece (f a x.0) x.1)) else Ok (a, ts)

-- how nested expressions and statements are read
pub record Inside : Type 0 where
  pub expr : List Lexeme → Read Expr
  pub stmt : List Lexeme → Read Stmt

abbrev pub read : {A : Type 0} → Inside → Part A → List Lexeme → Read A
read inside (give a) ts = Ok (a, ts)
read inside (one t) ts = read_one t ts
read inside (both f p q) ts = read inside p ts >>= (λ x. read inside q x.1 >>= (λ y. Ok (f x.0 y.0, y.1)))
read inside (either p q) ts = if starts_with (first p) ts then read inside p ts else read inside q ts
read inside (left f p q) ts = read inside p ts >>= (λ x. more (length x.1) f (first q) (read inside q) x.0 x.1)
read inside expression ts = inside.expr ts
read inside statement ts = inside.stmt ts

-- reading of nested expressions and statements, down to a depth
unfoldable pub inside : List ℕ → ℕ → Inside
inside bytes zero = record { expr = λ ts. Err (length ts); stmt = λ ts. Err (length ts) }
inside bytes (suc d) = record { expr = read (inside bytes d) (expr bytes); stmt = read (inside bytes d) (stmt bytes) }
