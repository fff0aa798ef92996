-- Reading all of the tokens.
use Rattle.std.specs.Prelude.{◌≡◌, ◌⊎◌, ℕ, ◌+◌, ◌-◌, List, [], ◌∷◌, Some, None, Result, Ok, Err, length}
use Rattle.mv_ast.specs.declared.lexeme.Lexeme.{Lexeme}
use Rattle.mv_ast.specs.declared.tree.Script.{Script}
use Rattle.mv_ast.specs.Grammar.{script}
use Rattle.mv_ast.specs.Limits.{at_token, first_early, first_late}
use Rattle.mv_parser.specs.Reading.{◌>>=◌, read, inside}
use Rattle.mv_parser.specs.declared.fault.ParseFault.{ParseFault}
use Rattle.mv_parser.specs.declared.fault.ParseFault.TheVariants.{Syntax, Limit, NoMemory}
use Rattle.mv_parser.specs.declared.fault.Failure.{Failure}
use Rattle.mv_parser.specs.declared.fault.Failure.TheVariants.{Memory, Wrong}

-- the value read, if no token is left
abbrev pub whole : {A : Type 0} → A → List Lexeme → Result A ℕ
whole v [] = Ok v
whole v (l ∷ ts) = Err (length (l ∷ ts))

-- all tokens read as a script
abbrev pub parsed : List ℕ → ℕ → List Lexeme → Result Script ℕ
parsed bytes depth ts = read (inside bytes depth) (script bytes) ts >>= (λ x. whole x.0 x.1)

-- the result is that of reading, unless memory ran out
abbrev pub Answers : {A : Type 0} → Result A Failure → Result A ℕ → Type 0
Answers (Ok x) reading = reading ≡ Ok x
Answers (Err Memory) reading = Unit {0}
Answers (Err (Wrong left)) reading = reading ≡ Err left

-- The result for a script's tokens and for reading them, unless memory ran out. The checks are, in this order: the
-- limits that need no tree, the grammar, and the other limits. The token of a syntax error is the first one of those
-- left, counted from 1.
abbrev pub ParsesTo : List ℕ → List Lexeme → Result Script ℕ → Result Script ParseFault → Type 0
ParsesTo bytes ts reading (Ok s) = (first_early ts ≡ None) × (reading ≡ Ok s) × (first_late bytes ts s ≡ None)
ParsesTo bytes ts reading (Err NoMemory) = Unit {0}
ParsesTo bytes ts reading (Err (Syntax token)) = (first_early ts ≡ None) × (left : ℕ) × (reading ≡ Err left) × (token ≡ length ts - left + 1)
ParsesTo bytes ts reading (Err (Limit which token)) =
    (first_early ts ≡ Some (at_token which token))
    ⊎ ((first_early ts ≡ None) × (s : Script) × (reading ≡ Ok s) × (first_late bytes ts s ≡ Some (at_token which token)))
