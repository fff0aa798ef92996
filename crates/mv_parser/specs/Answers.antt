-- What the functions of the parser return.
use Rattle.std.specs.Prelude.{◌≡◌, ℕ, ◌+◌, ◌<◌, List, [], ◌∷◌, Option, Some, None, drop, length, Result, Ok, Err}
use Rattle.mv_ast.specs.declared.lexeme.Lexeme.{Lexeme}
use Rattle.mv_ast.specs.declared.tree.Expr.{Expr}
use Rattle.mv_ast.specs.declared.tree.TwoOp.{TwoOp}
use Rattle.mv_ast.specs.Parts.{Part}
use Rattle.mv_ast.specs.Trees.{paired_by}
use Rattle.mv_parser.specs.Reading.{◌>>=◌, Read, Inside, read, inside}
use Rattle.mv_parser.specs.declared.reader.Reader.{Reader}
use Rattle.mv_parser.specs.declared.fault.Failure.{Failure}
use Rattle.mv_parser.specs.declared.fault.Failure.TheVariants.{Memory, Wrong}

-- the token at a position, if there is one
abbrev pub Ahead : List Lexeme → ℕ → Option Lexeme → Type 0
Ahead ts at None = drop at ts ≡ []
Ahead ts at (Some l) = (drop at ts ≡ l ∷ drop (at + 1) ts) × (at < length ts)

-- the error of reading, unless memory ran out
abbrev pub Stops : {A : Type 0} → List Lexeme → Failure → Read A → Type 0
Stops ts Memory reading = Unit {0}
Stops ts (Wrong left) reading = reading ≡ Err left

abbrev pub AnswersRead : {A : Type 0} → List Lexeme → Result (A × ℕ) Failure → Read A → Type 0
AnswersRead ts (Ok x) reading = reading ≡ Ok (x.0, drop x.1 ts)
AnswersRead ts (Err stop) reading = Stops ts stop reading

-- how this reader reads nested expressions and statements
abbrev pub inside_of : Reader → Inside
inside_of r = inside r.bytes.now r.depth

-- the function reads this part of the grammar at a position
abbrev pub ReadsPart : {A : Type 0} → Reader → ℕ → (List ℕ → Part A) → Result (A × ℕ) Failure → Type 0
ReadsPart r at part result = AnswersRead r.lexemes.now result (read (inside_of r) (part r.bytes.now) (drop at r.lexemes.now))

-- the function reads this part and applies a function to its value
abbrev pub ReadsFor : {A B : Type 0} → Reader → ℕ → (List ℕ → Part A) → (A → B) → Result (B × ℕ) Failure → Type 0
ReadsFor r at part f result = AnswersRead r.lexemes.now result (read (inside_of r) (part r.bytes.now) (drop at r.lexemes.now) >>= (λ x. Ok (f x.0, x.1)))

-- the function joins an expression with the operator and the operand read after it
abbrev pub Joins : List Lexeme → Expr → Result ((TwoOp × Expr) × ℕ) Failure → Result (Expr × ℕ) Failure → Type 0
Joins ts a next result = (reading : Read (TwoOp × Expr)) → AnswersRead ts next reading → AnswersRead ts result (reading >>= (λ x. Ok (paired_by a x.0, x.1)))

-- reading returns the value of what was read, after a function is applied to it
abbrev pub GivesBy : {A B : Type 0} → List Lexeme → (A → B) → Result (A × ℕ) Failure → Read B → Type 0
GivesBy ts f (Ok x) reading = reading ≡ Ok (f x.0, drop x.1 ts)
GivesBy ts f (Err stop) reading = Stops ts stop reading

-- the function applies a second function to what was read for the first
abbrev pub Completes : {A B C : Type 0} → List Lexeme → (A → B) → (B → C) → Result (A × ℕ) Failure → Result (C × ℕ) Failure → Type 0
Completes {B = B} ts f g next result = (reading : Read B) → GivesBy ts f next reading → AnswersRead ts result (reading >>= (λ x. Ok (g x.0, x.1)))
