-- Reading lists of parts, given how one part is read.
use Rattle.std.specs.Prelude.{List, [], ◌∷◌, Ok, length}
use Rattle.mv_ast.specs.declared.lexeme.Lexeme.{Lexeme}
use Rattle.mv_ast.specs.declared.lexeme.Terminal.{Terminal}
use Rattle.mv_ast.specs.declared.lexeme.Terminal.TheVariants as word
use Rattle.mv_ast.specs.Grammar.{added, single}
use Rattle.mv_parser.specs.Reading.{◌>>=◌, Read, read_one, more}

-- a mark and the part after it
abbrev pub read_behind : {A : Type 0} → Terminal → (List Lexeme → Read A) → List Lexeme → Read A
read_behind mark reading ts = read_one mark ts >>= (λ x. reading x.1 >>= (λ y. Ok (y.0, y.1)))

abbrev pub begun : {A : Type 0} → A × List Lexeme → Read (List A)
begun x = Ok (single x.0, x.1)

-- one or more parts, separated by a mark
abbrev pub read_separated : {A : Type 0} → Terminal → (List Lexeme → Read A) → List Lexeme → Read (List A)
read_separated mark reading ts = (reading ts >>= begun) >>= (λ x. more (length x.1) added (mark ∷ []) (read_behind mark reading) x.0 x.1)

-- a part in parentheses
abbrev pub read_in_parens : {A : Type 0} → (List Lexeme → Read A) → List Lexeme → Read A
read_in_parens reading ts = read_behind word.Open reading ts >>= (λ x. read_one word.Close x.1 >>= (λ y. Ok (x.0, y.1)))
