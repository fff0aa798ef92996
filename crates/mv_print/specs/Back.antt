-- A printed script parses as the same script.
use Rattle.std.specs.Prelude.{ℕ, List}
use Rattle.mv_lex.specs.Tokens.{AreTokens}
use Rattle.mv_lex.specs.declared.token.Token.{Token}
use Rattle.mv_ast.specs.declared.tree.Script.{Script}
use Rattle.mv_ast.specs.Lexemes.{IsScript}
use Rattle.mv_print.specs.Same.{SameButPlaces}

-- The text has tokens. They are a script within all limits, the same as the script of these bytes except for positions.
abbrev pub ReadsBack : List ℕ → Script → List ℕ → Type 0
ReadsBack bytes s text = (tokens : List Token) × (t : Script) × AreTokens text tokens × IsScript text tokens t × SameButPlaces bytes s text t
