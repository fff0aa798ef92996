-- The tokens of an input. All of this is the language's own.
use Rattle.std.specs.Prelude.{◌≡◌, ℕ, ◌+◌, ◌<◌, ◌≤◌, Bool, true, false, ◌&&◌, ◌==◌, List, [], ◌∷◌, ◌++◌, length, take, drop, slice_index, IsTrue, IsFalse}
use Rattle.std.specs.List.{list_all}
use Rattle.mv_lex.specs.Bytes.{is_blank, is_in_line, is_allowed}
use Rattle.mv_lex.specs.Spelling.{IsSpelled}
use Rattle.mv_lex.specs.declared.token.Kind.{Kind}
use Rattle.mv_lex.specs.declared.token.Token.{Token}

-- the longest token at the front of the bytes: no longer prefix is a token of any kind
pub record IsLongest (kind : Kind) (text after : List ℕ) : Type 0 where
  pub spelled : IsSpelled kind text after
  pub longest : (other : Kind) (front rest : List ℕ) → front ++ rest ≡ text ++ after → length text < length front → IsSpelled other front rest → ⊥

-- the line ends here: the next byte is LF, or the input ends
abbrev pub ends_line : List ℕ → Bool
ends_line [] = true
ends_line (b ∷ _) = b == 10

-- no token continues here: the next byte is a blank, or the input ends
abbrev pub is_parted : List ℕ → Bool
is_parted [] = true
is_parted (b ∷ _) = is_blank b

-- a comment begins here: `--`
abbrev pub begins_comment : List ℕ → Bool
begins_comment (a ∷ b ∷ _) = a == 45 && b == 45
begins_comment _ = false

-- a token of this kind with these bytes, at this position
abbrev pub token_at : Kind → ℕ → List ℕ → Token
token_at kind place text = record { kind = kind; at = place; len = length text }

-- `Reads place bytes tokens end rest`: the bytes begin at `place`. Up to `end` they are blanks, comments and these
-- tokens, each the longest that fits. From `end` on they are `rest`.
pub data Lexes : ℕ → List ℕ → List Token → ℕ → List ℕ → Type 0 where
  stop : {place : ℕ} {bytes : List ℕ} → Lexes place bytes [] place bytes
  blank : {place end b : ℕ} {bytes rest : List ℕ} {tokens : List Token} → IsTrue (is_blank b)
      → Lexes (place + 1) bytes tokens end rest → Lexes place (b ∷ bytes) tokens end rest
  comment : {place end : ℕ} {rest : List ℕ} {tokens : List Token} (line bytes : List ℕ) → IsTrue (list_all is_in_line line) → IsTrue (ends_line bytes)
      → Lexes (place + (2 + length line)) bytes tokens end rest → Lexes place (45 ∷ 45 ∷ (line ++ bytes)) tokens end rest
  token : {place end : ℕ} {rest : List ℕ} {tokens : List Token} (kind : Kind) (text bytes : List ℕ) → IsLongest kind text bytes
      → Lexes (place + length text) bytes tokens end rest → Lexes place (text ++ bytes) (token_at kind place text ∷ tokens) end rest

-- a script may contain each of these bytes
abbrev pub AreAllowed : List ℕ → Type 0
AreAllowed bytes = IsTrue (list_all is_allowed bytes)

-- these are the tokens of the whole input
abbrev pub AreTokens : List ℕ → List Token → Type 0
AreTokens bytes tokens = AreAllowed bytes × Lexes 0 bytes tokens (length bytes) []

-- this is the position of the first byte that no script may contain
abbrev pub IsBadByte : List ℕ → ℕ → Type 0
IsBadByte bytes place = (place < length bytes) × AreAllowed (take place bytes) × IsFalse (is_allowed (slice_index bytes place))

-- there is a byte, and no blank, comment or token begins with it
abbrev pub BeginsNothing : List ℕ → Type 0
BeginsNothing [] = ⊥
BeginsNothing (b ∷ bytes) = IsFalse (is_blank b) × IsFalse (begins_comment (b ∷ bytes))
    × ((kind : Kind) (text rest : List ℕ) → text ++ rest ≡ b ∷ bytes → IsSpelled kind text rest → ⊥)

-- this is the first position without a token: tokens, blanks and comments come before it, and none begins at it
abbrev pub IsBadToken : List ℕ → ℕ → Type 0
IsBadToken bytes place = AreAllowed bytes × ((tokens : List Token) × (rest : List ℕ) × Lexes 0 bytes tokens place rest × BeginsNothing rest)

-- the token lies within the bytes and is spelled as its kind requires
pub record IsSpelledIn (bytes : List ℕ) (token : Token) : Type 0 where
  pub within : token.at + token.len ≤ length bytes
  pub spelled : IsSpelled token.kind (take token.len (drop token.at bytes)) (drop (token.at + token.len) bytes)
