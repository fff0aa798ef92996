-- What each result of the lexer says of the bytes.
use Rattle.std.specs.Prelude.{List, ℕ, Result, Ok, Err}
use Rattle.mv_lex.specs.declared.token.Token.{Token}
use Rattle.mv_lex.specs.declared.lexer.LexFault.{LexFault}
use Rattle.mv_lex.specs.declared.lexer.LexFault.TheVariants.{BadByte, BadToken, NoMemory}
use Rattle.mv_lex.specs.Tokens.{AreAllowed, AreTokens, IsBadByte, IsBadToken}

-- the result is correct for the bytes; memory runs out only if every byte is allowed
abbrev pub LexesTo : List ℕ → Result (List Token) LexFault → Type 0
LexesTo bytes (Ok tokens) = AreTokens bytes tokens
LexesTo bytes (Err (BadByte place)) = IsBadByte bytes place
LexesTo bytes (Err (BadToken place)) = IsBadToken bytes place
LexesTo bytes (Err NoMemory) = AreAllowed bytes
