-- The tokens of a script as the grammar sees them.
use Rattle.std.specs.Prelude.{◌≡◌, ◌⊎◌, ℕ, ◌+◌, ◌-◌, ◌≤◌, List, [], ◌∷◌, Some, None, length, take, slice_range, if◌then◌else◌, codes, ◌==◌}
use Rattle.std.specs.Cmp.Lexicographic.{pointwise}
use Rattle.mv_lex.specs.declared.token.Token.{Token}
use Rattle.mv_lex.specs.declared.token.Kind.{Kind}
use Rattle.mv_lex.specs.declared.token.Kind.TheVariants as token
use Rattle.mv_ast.specs.declared.lexeme.Lexeme.{Lexeme}
use Rattle.mv_ast.specs.declared.lexeme.Terminal.{Terminal}
use Rattle.mv_ast.specs.declared.lexeme.Terminal.TheVariants as word
use Rattle.mv_ast.specs.declared.limit.Which.{Which}
use Rattle.mv_ast.specs.declared.tree.Script.{Script}
use Rattle.mv_ast.specs.Parts.{Is, Begins}
use Rattle.mv_ast.specs.Texts.{lower}
use Rattle.mv_ast.specs.Grammar.{script, inner}
use Rattle.mv_ast.specs.Limits.{at_token, first_early, first_late}

-- the keywords; none of them is a name
unfoldable pub keywords : List (List ℕ × Terminal)
keywords =
    (codes "and", word.And) ∷
    (codes "asc", word.Asc) ∷
    (codes "begin", word.Begin) ∷
    (codes "by", word.By) ∷
    (codes "call", word.Call) ∷
    (codes "contains", word.Contains) ∷
    (codes "copy", word.Copy) ∷
    (codes "count", word.Count) ∷
    (codes "create", word.Create) ∷
    (codes "declare", word.Declare) ∷
    (codes "delete", word.Delete) ∷
    (codes "desc", word.Desc) ∷
    (codes "distinct", word.Distinct) ∷
    (codes "do", word.Do) ∷
    (codes "else", word.Else) ∷
    (codes "end", word.End) ∷
    (codes "for", word.For) ∷
    (codes "from", word.From) ∷
    (codes "if", word.If) ∷
    (codes "in", word.In) ∷
    (codes "index", word.Index) ∷
    (codes "insert", word.Insert) ∷
    (codes "int", word.Int) ∷
    (codes "into", word.Into) ∷
    (codes "journal", word.Journal) ∷
    (codes "key", word.Key) ∷
    (codes "left", word.Left) ∷
    (codes "max", word.Max) ∷
    (codes "min", word.Min) ∷
    (codes "not", word.Not) ∷
    (codes "offset", word.Offset) ∷
    (codes "only", word.Only) ∷
    (codes "or", word.Or) ∷
    (codes "order", word.Order) ∷
    (codes "primary", word.Primary) ∷
    (codes "print", word.Print) ∷
    (codes "procedure", word.Procedure) ∷
    (codes "read", word.Read) ∷
    (codes "references", word.References) ∷
    (codes "rollback", word.Rollback) ∷
    (codes "rows", word.Rows) ∷
    (codes "select", word.Select) ∷
    (codes "set", word.Set) ∷
    (codes "sum", word.Sum) ∷
    (codes "table", word.Table) ∷
    (codes "text", word.Text) ∷
    (codes "textof", word.TextOf) ∷
    (codes "then", word.Then) ∷
    (codes "update", word.Update) ∷
    (codes "values", word.Values) ∷
    (codes "where", word.Where) ∷
    []

-- the symbols
unfoldable pub symbols : List (List ℕ × Terminal)
symbols =
    (codes "(", word.Open) ∷
    (codes ")", word.Close) ∷
    (codes ",", word.Comma) ∷
    (codes ";", word.Semicolon) ∷
    (codes ".", word.Dot) ∷
    (codes "=", word.Equal) ∷
    (codes "<>", word.NotEqual) ∷
    (codes "<", word.Less) ∷
    (codes "<=", word.LessOrEqual) ∷
    (codes ">", word.Greater) ∷
    (codes ">=", word.GreaterOrEqual) ∷
    (codes "+", word.Plus) ∷
    (codes "-", word.Minus) ∷
    (codes "*", word.Star) ∷
    (codes "/", word.Slash) ∷
    (codes "%", word.Percent) ∷
    (codes "||", word.Bars) ∷
    []

-- the terminal that a table lists for a text, or else `other`
unfoldable pub listed : List (List ℕ × Terminal) → Terminal → List ℕ → Terminal
listed [] other text = other
listed (w ∷ ws) other text = if pointwise ◌==◌ w.0 text then w.1 else listed ws other text

-- the terminal of a token of this kind with these bytes
abbrev pub kind_of : Kind → List ℕ → Terminal
kind_of token.Word text = listed keywords word.Name (lower text)
kind_of token.Number text = word.Number
kind_of token.Text text = word.Quoted
kind_of token.Variable text = word.Variable
kind_of token.Symbol text = listed symbols word.Bars text
kind_of token.Block text = word.Block
kind_of token.OpenBlock text = word.OpenBlock

abbrev pub lexeme_of : ℕ → List ℕ → Token → Lexeme
lexeme_of number bytes t = record { number = number; kind = kind_of t.kind (slice_range bytes t.at (t.at + t.len)); at = t.at; len = t.len }

-- the tokens, numbered from this number on
abbrev pub lexemes_from : ℕ → List ℕ → List Token → List Lexeme
lexemes_from number bytes [] = []
lexemes_from number bytes (t ∷ ts) = lexeme_of number bytes t ∷ lexemes_from (number + 1) bytes ts

abbrev pub lexemes : List ℕ → List Token → List Lexeme
lexemes bytes tokens = lexemes_from 1 bytes tokens

-- The tokens are a script by the grammar, limits aside. Expressions and statements may be nested to any depth.
abbrev pub IsByGrammar : List ℕ → List Token → Script → Type 0
IsByGrammar bytes tokens s = (levels : ℕ) × Is (inner bytes levels) (script bytes) (lexemes bytes tokens) s

-- The tokens are a script by the grammar and pass no limit.
pub record IsScript (bytes : List ℕ) (tokens : List Token) (s : Script) : Type 0 where
  pub grammar : IsByGrammar bytes tokens s
  pub early : first_early (lexemes bytes tokens) ≡ None
  pub late : first_late bytes (lexemes bytes tokens) s ≡ None

-- This limit is reported, at this token. If depth or stretch is passed, it is the first of them. Otherwise the tokens
-- are a script by the grammar, and it is the first of the other limits that the script passes.
abbrev pub PassesLimit : List ℕ → List Token → Which → ℕ → Type 0
PassesLimit bytes tokens which token =
    (first_early (lexemes bytes tokens) ≡ Some (at_token which token))
    ⊎ ((first_early (lexemes bytes tokens) ≡ None) × (s : Script) × IsByGrammar bytes tokens s × (first_late bytes (lexemes bytes tokens) s ≡ Some (at_token which token)))

-- The first `n` tokens begin a script, limits aside.
abbrev pub BeginScript : List ℕ → List Token → ℕ → Type 0
BeginScript bytes tokens n = (levels : ℕ) × Begins (inner bytes levels) (script bytes) (take n (lexemes bytes tokens))

-- This is the first token, counted from 1, that can't continue a script. Depth and stretch aren't passed. The tokens
-- before it begin a script, and with it they don't. If all tokens together begin a script but aren't one, it is one
-- past the last.
pub record CannotStand (bytes : List ℕ) (tokens : List Token) (t : ℕ) : Type 0 where
  pub early : first_early (lexemes bytes tokens) ≡ None
  pub counted : (1 ≤ t) × (t ≤ length tokens + 1)
  pub before : BeginScript bytes tokens (t - 1)
  pub with_it : t ≤ length tokens → BeginScript bytes tokens t → ⊥
  pub no_script : (s : Script) → IsByGrammar bytes tokens s → ⊥
