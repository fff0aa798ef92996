-- Each stage of the way answers exactly.
use Rattle.std.proofs.Common.{◌≡◌, ◌⊎◌, ◌<◌, ◌≤◌, inl, inr, ◌↔◌, ℕ, List, Result, Ok, Err, refl, ap, arith, length}
use Rattle.mv_lex.specs.declared.token.Token.{Token}
use Rattle.mv_lex.specs.declared.lexer.LexFault.{LexFault}
use Rattle.mv_lex.specs.declared.lexer.LexFault.TheVariants as lexing
use Rattle.mv_lex.specs.Tokens.{AreTokens, IsBadByte, IsBadToken}
use Rattle.mv_ast.specs.declared.tree.Script.{Script}
use Rattle.mv_ast.specs.declared.limit.Which.{Which}
use Rattle.mv_ast.specs.Lexemes.{IsScript, CannotStand, PassesLimit}
use Rattle.mv_parser.specs.declared.fault.ParseFault.{ParseFault}
use Rattle.mv_parser.specs.declared.fault.ParseFault.TheVariants as parsing
use Rattle.mv_accept.specs.declared.refusal.ScriptRefusal.{ScriptRefusal}
use Rattle.mv_accept.specs.declared.refusal.ScriptRefusal.TheVariants as why
use Rattle.mv_accept.specs.declared.accept.NotAccepted.TheVariants.{Refused, NoMemory}
use Rattle.mv_accept.specs.Exact.{Exact, HasCause}
use Rattle.mv_accept.specs.Accepting.{most_bytes, HasTokens, HasNoTokens, too_long, bad_byte, bad_token, IsNoScript, syntax, limit}
use Rattle.mv_accept.specs.Telling.{of_lexing, of_parsing}

-- Tokens: too many bytes have none
of_too_long : (bytes : List ℕ) → most_bytes < length bytes → (refusal : ScriptRefusal) → HasNoTokens bytes refusal → (Refused why.TooLong ≡ Refused refusal) ⊎ (Refused why.TooLong ≡ NoMemory)
of_too_long bytes more _ (too_long h) = inl refl
of_too_long bytes more _ (bad_byte at few h) = absurd (omega arith)
of_too_long bytes more _ (bad_token at few h) = absurd (omega arith)

pub too_many_bytes : (bytes : List ℕ) → most_bytes < length bytes → Exact (HasTokens bytes) (HasNoTokens bytes) (Err (Refused why.TooLong))
too_many_bytes bytes more = record {
  found = tt;
  only = λ tokens h. absurd (let few = h.0 in omega arith);
  refused = too_long more;
  told = of_too_long bytes more;
}

-- what the lexer says of its answer
abbrev pub TellsByte : List ℕ → Result (List Token) LexFault → Type 0
TellsByte bytes r = (place : ℕ) → (r ≡ Err (lexing.BadByte place)) ↔ IsBadByte bytes place

abbrev pub TellsToken : List ℕ → Result (List Token) LexFault → Type 0
TellsToken bytes r = (place : ℕ) → IsBadToken bytes place → (r ≡ Err (lexing.BadToken place)) ⊎ (r ≡ Err lexing.NoMemory)

abbrev pub IsBadAt : List ℕ → Result (List Token) LexFault → Type 0
IsBadAt bytes r = (place : ℕ) → r ≡ Err (lexing.BadToken place) → IsBadToken bytes place

has_tokens : (bytes : List ℕ) (tokens : List Token) → TellsByte bytes (Ok tokens) → TellsToken bytes (Ok tokens) → (refusal : ScriptRefusal) → HasNoTokens bytes refusal → length bytes ≤ most_bytes → ⊥
has_tokens bytes tokens b t _ (too_long more) few = absurd (omega arith)
has_tokens bytes tokens b t _ (bad_byte at _ h) few = (let never = (b at).1 h in cc)
has_tokens bytes tokens b t _ (bad_token at _ h) few = elim (t at h) [ inl never ↦ cc | inr never ↦ cc ]

pub lexed : (bytes : List ℕ) (tokens : List Token) → length bytes ≤ most_bytes → AreTokens bytes tokens → ((others : List Token) → AreTokens bytes others → tokens ≡ others)
    → TellsByte bytes (Ok tokens) → TellsToken bytes (Ok tokens) → Exact (HasTokens bytes) (HasNoTokens bytes) (Ok tokens)
lexed bytes tokens few are same b t = record {
  found = (few, are);
  only = λ others h. same others h.1;
  refused = tt;
  told = λ refusal c. has_tokens bytes tokens b t refusal c few;
}

lex_told : (bytes : List ℕ) (f : LexFault) → TellsByte bytes (Err f) → TellsToken bytes (Err f) → length bytes ≤ most_bytes
    → (refusal : ScriptRefusal) → HasNoTokens bytes refusal → (of_lexing f ≡ Refused refusal) ⊎ (of_lexing f ≡ NoMemory)
lex_told bytes f b t few _ (too_long more) = absurd (omega arith)
lex_told bytes f b t few _ (bad_byte at _ h) = (let is = (b at).1 h in let same : f ≡ lexing.BadByte at = cc in inl (ap of_lexing same))
lex_told bytes f b t few _ (bad_token at _ h) =
    elim (t at h) [
      | inl is ↦ (let same : f ≡ lexing.BadToken at = cc in inl (ap of_lexing same))
      | inr is ↦ (let same : f ≡ lexing.NoMemory = cc in inr (ap of_lexing same))
    ]

lex_cause : (bytes : List ℕ) (f : LexFault) → length bytes ≤ most_bytes → TellsByte bytes (Err f) → IsBadAt bytes (Err f)
    → HasCause (HasNoTokens bytes) (of_lexing f)
lex_cause bytes (lexing.BadByte at) few b t = bad_byte at few ((b at).0 refl)
lex_cause bytes (lexing.BadToken at) few b t = bad_token at few (t at refl)
lex_cause bytes lexing.NoMemory few b t = tt

pub not_lexed : (bytes : List ℕ) (f : LexFault) → length bytes ≤ most_bytes → ((tokens : List Token) → AreTokens bytes tokens → f ≡ lexing.NoMemory)
    → TellsByte bytes (Err f) → IsBadAt bytes (Err f) → TellsToken bytes (Err f)
    → Exact (HasTokens bytes) (HasNoTokens bytes) (Err (of_lexing f))
not_lexed bytes f few only b bad t = record {
  found = tt;
  only = λ tokens h. ap of_lexing (only tokens h.1);
  refused = lex_cause bytes f few b bad;
  told = lex_told bytes f b t few;
}

-- The script
abbrev pub TellsSyntax : List ℕ → List Token → Result Script ParseFault → Type 0
TellsSyntax bytes tokens r = (token : ℕ) → CannotStand bytes tokens token → (r ≡ Err (parsing.Syntax token)) ⊎ (r ≡ Err parsing.NoMemory)

abbrev pub TellsLimit : List ℕ → List Token → Result Script ParseFault → Type 0
TellsLimit bytes tokens r = (which : Which) (token : ℕ) → PassesLimit bytes tokens which token → (r ≡ Err (parsing.Limit which token)) ⊎ (r ≡ Err parsing.NoMemory)

abbrev pub IsWrongAt : List ℕ → List Token → Result Script ParseFault → Type 0
IsWrongAt bytes tokens r = (token : ℕ) → r ≡ Err (parsing.Syntax token) → CannotStand bytes tokens token

abbrev pub IsPastAt : List ℕ → List Token → Result Script ParseFault → Type 0
IsPastAt bytes tokens r = (which : Which) (token : ℕ) → r ≡ Err (parsing.Limit which token) → PassesLimit bytes tokens which token

is_script : (bytes : List ℕ) (tokens : List Token) (script : Script) → TellsSyntax bytes tokens (Ok script) → TellsLimit bytes tokens (Ok script)
    → (refusal : ScriptRefusal) → IsNoScript bytes tokens refusal → ⊥
is_script bytes tokens script s l _ (syntax token h) = elim (s token h) [ inl never ↦ cc | inr never ↦ cc ]
is_script bytes tokens script s l _ (limit which token h) = elim (l which token h) [ inl never ↦ cc | inr never ↦ cc ]

pub parsed : (bytes : List ℕ) (tokens : List Token) (script : Script) → IsScript bytes tokens script → ((other : Script) → IsScript bytes tokens other → script ≡ other)
    → TellsSyntax bytes tokens (Ok script) → TellsLimit bytes tokens (Ok script) → Exact (IsScript bytes tokens) (IsNoScript bytes tokens) (Ok script)
parsed bytes tokens script is same s l = record { found = is; only = same; refused = tt; told = is_script bytes tokens script s l }

parse_told : (bytes : List ℕ) (tokens : List Token) (f : ParseFault) → TellsSyntax bytes tokens (Err f) → TellsLimit bytes tokens (Err f)
    → (refusal : ScriptRefusal) → IsNoScript bytes tokens refusal → (of_parsing f ≡ Refused refusal) ⊎ (of_parsing f ≡ NoMemory)
parse_told bytes tokens f s l _ (syntax token h) =
    elim (s token h) [
      | inl is ↦ (let same : f ≡ parsing.Syntax token = cc in inl (ap of_parsing same))
      | inr is ↦ (let same : f ≡ parsing.NoMemory = cc in inr (ap of_parsing same))
    ]
parse_told bytes tokens f s l _ (limit which token h) =
    elim (l which token h) [
      | inl is ↦ (let same : f ≡ parsing.Limit which token = cc in inl (ap of_parsing same))
      | inr is ↦ (let same : f ≡ parsing.NoMemory = cc in inr (ap of_parsing same))
    ]

parse_cause : (bytes : List ℕ) (tokens : List Token) (f : ParseFault) → IsWrongAt bytes tokens (Err f)
    → IsPastAt bytes tokens (Err f) → HasCause (IsNoScript bytes tokens) (of_parsing f)
parse_cause bytes tokens (parsing.Syntax token) s l = syntax token (s token refl)
parse_cause bytes tokens (parsing.Limit which token) s l = limit which token (l which token refl)
parse_cause bytes tokens parsing.NoMemory s l = tt

pub not_parsed : (bytes : List ℕ) (tokens : List Token) (f : ParseFault) → ((script : Script) → IsScript bytes tokens script → f ≡ parsing.NoMemory)
    → IsWrongAt bytes tokens (Err f) → TellsSyntax bytes tokens (Err f)
    → IsPastAt bytes tokens (Err f) → TellsLimit bytes tokens (Err f)
    → Exact (IsScript bytes tokens) (IsNoScript bytes tokens) (Err (of_parsing f))
not_parsed bytes tokens f only s st l lt = record {
  found = tt;
  only = λ script h. ap of_parsing (only script h);
  refused = parse_cause bytes tokens f s l;
  told = parse_told bytes tokens f st lt;
}
