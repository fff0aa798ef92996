-- Grammars over lists of tokens: what a part is, which tokens match it, and which begin it.
use Rattle.std.specs.Prelude.{◌≡◌, List, [], ◌∷◌, ◌++◌, ◌⊎◌}
use Rattle.mv_ast.specs.declared.lexeme.Lexeme.{Lexeme}
use Rattle.mv_ast.specs.declared.lexeme.Terminal.{Terminal}
use Rattle.mv_ast.specs.declared.tree.Expr.{Expr}
use Rattle.mv_ast.specs.declared.tree.Stmt.{Stmt}

-- a part of the grammar, with the type of its value
pub data Part : Type 0 → Type 1 where
  -- no token, with this value
  give : {A : Type 0} → A → Part A
  -- one token of this kind
  one : Terminal → Part Lexeme
  -- one part and then another; the function joins their values
  both : {A B C : Type 0} → (A → B → C) → Part A → Part B → Part C
  -- either of two parts
  either : {A : Type 0} → Part A → Part A → Part A
  -- one part and then any number of another, joined from the left
  left : {A B : Type 0} → (A → B → A) → Part A → Part B → Part A
  -- a nested expression or statement
  expression : Part Expr
  statement : Part Stmt

-- which tokens match, and which begin, a nested expression or statement
pub record Inner : Type 1 where
  pub is_expression : List Lexeme → Expr → Type 0
  pub is_statement : List Lexeme → Stmt → Type 0
  pub begins_expression : List Lexeme → Type 0
  pub begins_statement : List Lexeme → Type 0

-- the tokens are a sequence of pieces, one for each value
abbrev pub Pieces : {A : Type 0} → (List Lexeme → A → Type 0) → List Lexeme → List A → Type 0
Pieces P ts [] = ts ≡ []
Pieces P ts (v ∷ vs) = (xs : List Lexeme) × (ys : List Lexeme) × (ts ≡ xs ++ ys) × P xs v × Pieces P ys vs

abbrev pub joined : {A B : Type 0} → (A → B → A) → A → List B → A
joined f a [] = a
joined f a (b ∷ bs) = joined f (f a b) bs

-- the tokens match this part, with this value
abbrev pub Is : {A : Type 0} → Inner → Part A → List Lexeme → A → Type 0
Is inner (give a) ts v = (ts ≡ []) × (v ≡ a)
Is inner (one t) ts v = (ts ≡ v ∷ []) × (v.kind ≡ t)
Is inner (both {A = A} {B = B} f p q) ts v =
    (xs : List Lexeme) × (ys : List Lexeme) × (a : A) × (b : B) × (ts ≡ xs ++ ys) × Is inner p xs a × Is inner q ys b × (v ≡ f a b)
Is inner (either p q) ts v = Is inner p ts v ⊎ Is inner q ts v
Is inner (left {A = A} {B = B} f p q) ts v =
    (xs : List Lexeme) × (ys : List Lexeme) × (a : A) × (bs : List B) × (ts ≡ xs ++ ys) × Is inner p xs a × Pieces (Is inner q) ys bs × (v ≡ joined f a bs)
Is inner expression ts v = inner.is_expression ts v
Is inner statement ts v = inner.is_statement ts v

-- the tokens begin this part: there are none, or they are whole pieces of it and the beginning of the next piece
abbrev pub Begins : {A : Type 0} → Inner → Part A → List Lexeme → Type 0
Begins inner (give a) ts = ts ≡ []
Begins inner (one t) ts = (ts ≡ []) ⊎ ((l : Lexeme) × (ts ≡ l ∷ []) × (l.kind ≡ t))
Begins inner (both {A = A} f p q) ts =
    Begins inner p ts ⊎ ((xs : List Lexeme) × (ys : List Lexeme) × (a : A) × (ts ≡ xs ++ ys) × Is inner p xs a × Begins inner q ys)
Begins inner (either p q) ts = Begins inner p ts ⊎ Begins inner q ts
Begins inner (left {A = A} {B = B} f p q) ts =
    Begins inner p ts ⊎ ((xs : List Lexeme) × (ys : List Lexeme) × (zs : List Lexeme) × (a : A) × (bs : List B)
    × (ts ≡ xs ++ (ys ++ zs)) × Is inner p xs a × Pieces (Is inner q) ys bs × Begins inner q zs)
Begins inner expression ts = inner.begins_expression ts
Begins inner statement ts = inner.begins_statement ts
