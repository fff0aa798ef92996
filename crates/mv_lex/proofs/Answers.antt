-- What follows from what the lexer tells.
use Rattle.std.proofs.Common.{◌≡◌, ◌⊎◌, ◌↔◌, inl, inr, ℕ, ◌+◌, ◌<◌, ◌≤◌, true, List, [], ◌∷◌, ◌++◌, Result, Ok, Err, length, take, drop, refl, sym, ap, subst, ◌∙◌, arith, append-nil, length-append}
use Rattle.std.specs.Prelude.{IfOk, MatchResult}
use Rattle.std.specs.List.{list_all, prefix_len, AllByRecursion, All}
use Rattle.std.proofs.lemmas.List.{drop-drop, take_at, drop_at, take-append-drop, drop_more, length-take-le}
use Rattle.std.proofs.lemmas.List.Elements.{All-from_recursion}
use Rattle.std.proofs.Math.Seq.{get_or-append_seam}
use Rattle.mv_lex.specs.Bytes.{is_allowed}
use Rattle.mv_lex.specs.Tokens.{Lexes, stop, blank, comment, token, BeginsNothing, AreAllowed, AreTokens, IsBadByte, IsBadToken, IsSpelledIn}
use Rattle.mv_lex.specs.Told.{LexesTo}
use Rattle.mv_lex.specs.declared.token.Token.{Token}
use Rattle.mv_lex.specs.declared.lexer.LexFault.{LexFault}
use Rattle.mv_lex.specs.declared.lexer.LexFault.TheVariants.{BadByte, BadToken, NoMemory}
use Rattle.mv_lex.proofs.Runs.{Stops, run_of, run_exact}
use Rattle.mv_lex.proofs.Whole.{one_reading, nothing_from, nothing_at_end}

-- bytes that are all allowed
pub run_allowed : (bytes : List ℕ) → AreAllowed bytes → prefix_len is_allowed bytes ≡ length bytes
run_allowed bytes a = ap (prefix_len is_allowed) (sym (append-nil bytes)) ∙ run_exact is_allowed bytes [] a tt

allowed_rest : (bytes front rest : List ℕ) → bytes ≡ front ++ rest → list_all is_allowed front ≡ true → length bytes ≤ length front → AreAllowed bytes
allowed_rest bytes front [] e a l = rw (e, append-nil front) a
allowed_rest bytes front (b ∷ rest) e a l = absurd (omega (arith, ap length e, length-append front (b ∷ rest)))

pub allowed_from_run : (bytes : List ℕ) → length bytes ≤ prefix_len is_allowed bytes → AreAllowed bytes
allowed_from_run bytes l = let r = run_of is_allowed bytes in let c = r.count in allowed_rest bytes r.front r.rest r.splits r.all (omega arith)

bad_at : (bytes front rest : List ℕ) (n : ℕ) → bytes ≡ front ++ rest → list_all is_allowed front ≡ true → Stops is_allowed rest → n ≡ length front → n < length bytes → IsBadByte bytes n
bad_at bytes front [] n e a s c l = absurd (omega (arith, ap length e, length-append front []))
bad_at bytes front (b ∷ rest) n e a s c l =
    let way : IsBadByte (front ++ b ∷ rest) (length front) =
    (omega (arith, length-append front (b ∷ rest)), rw (take_at front (b ∷ rest) (length front) refl) a, rw (get_or-append_seam front b rest 0) s) in
    subst (λ xs. IsBadByte xs n) (sym e) (subst (λ (k : ℕ). IsBadByte (front ++ b ∷ rest) k) (sym c) way)

pub bad_from_run : (bytes : List ℕ) → prefix_len is_allowed bytes < length bytes → IsBadByte bytes (prefix_len is_allowed bytes)
bad_from_run bytes l = let r = run_of is_allowed bytes in bad_at bytes r.front r.rest (prefix_len is_allowed bytes) r.splits r.all r.stops r.count l

pub run_from_bad : (bytes : List ℕ) (place : ℕ) → IsBadByte bytes place → prefix_len is_allowed bytes ≡ place
run_from_bad bytes place b =
    let l : place < length bytes = b.0 in
    let s : Stops is_allowed (drop place bytes) = subst (λ xs. Stops is_allowed xs) (sym (drop_more bytes place 0 l)) b.2 in
    let e = run_exact is_allowed (take place bytes) (drop place bytes) b.1 s in
    ap (prefix_len is_allowed) (sym (take-append-drop place bytes)) ∙ (e ∙ length-take-le place bytes (omega arith))

pub bad_not_allowed : (bytes : List ℕ) (place : ℕ) → IsBadByte bytes place → AreAllowed bytes → ⊥
bad_not_allowed bytes place b a = let l = b.0 in omega (arith, run_from_bad bytes place b, run_allowed bytes a)

-- each token lies in the bytes and is spelled as its kind
spelled_at : (whole : List ℕ) {place end : ℕ} {bytes rest : List ℕ} {tokens : List Token} → Lexes place bytes tokens end rest
    → drop place whole ≡ bytes → place + length bytes ≡ length whole → AllByRecursion (IsSpelledIn whole) tokens
spelled_at whole stop d l = tt
spelled_at whole (blank {place = place} {b = b} {bytes = bytes} i s) d l =
    spelled_at whole s (sym (drop-drop 1 place whole) ∙ ap (drop 1) d) (omega arith)
spelled_at whole (comment {place = place} line bytes a e s) d l =
    spelled_at whole s
    (sym (drop-drop (2 + length line) place whole) ∙ (ap (drop (2 + length line)) d ∙ drop_at (45 ∷ 45 ∷ line) bytes (2 + length line) (omega arith)))
    (omega (arith, length-append line bytes))
spelled_at whole (token {place = place} kind text bytes i s) d l =
    let rest : drop (place + length text) whole ≡ bytes = sym (drop-drop (length text) place whole) ∙ (ap (drop (length text)) d ∙ drop_at text bytes (length text) refl) in
    let front : take (length text) (drop place whole) ≡ text = ap (take (length text)) d ∙ take_at text bytes (length text) refl in
    let more = length-append text bytes in
    (record { within = omega arith; spelled = rw (front, rest) i.spelled }, spelled_at whole s rest (omega arith))

pub all_spelled : (bytes : List ℕ) (tokens : List Token) → AreTokens bytes tokens → All (IsSpelledIn bytes) tokens
all_spelled bytes tokens t = All-from_recursion (IsSpelledIn bytes) tokens (spelled_at bytes t.1 refl (omega arith))

-- the clauses, of any answer that tells what is so
pub tells_found : (bytes : List ℕ) (r : Result (List Token) LexFault) → LexesTo bytes r → IfOk r (λ tokens. AreTokens bytes tokens)
tells_found bytes (Ok tokens) t = t
tells_found bytes (Err e) t = tt

pub tells_spelled : (bytes : List ℕ) (r : Result (List Token) LexFault) → LexesTo bytes r → IfOk r (λ tokens. All (IsSpelledIn bytes) tokens)
tells_spelled bytes (Ok tokens) t = all_spelled bytes tokens t
tells_spelled bytes (Err e) t = tt

not_both : (bytes : List ℕ) (place : ℕ) (tokens : List Token) → IsBadToken bytes place → AreTokens bytes tokens → ⊥
not_both bytes place tokens (a, (before, rest, s, n)) t =
    let o = one_reading s (nothing_from rest n) t.1 nothing_at_end in
    subst BeginsNothing o.2 n

pub tells_only : (bytes : List ℕ) (r : Result (List Token) LexFault) → LexesTo bytes r → (tokens : List Token) → AreTokens bytes tokens
    → MatchResult r (λ answer. answer ≡ tokens) (λ fault. fault ≡ NoMemory)
tells_only bytes (Ok answer) t tokens u = sym (one_reading t.1 nothing_at_end u.1 nothing_at_end).0
tells_only bytes (Err (BadByte place)) t tokens u = absurd (bad_not_allowed bytes place t u.0)
tells_only bytes (Err (BadToken place)) t tokens u = absurd (not_both bytes place tokens t u)
tells_only bytes (Err NoMemory) t tokens u = refl

abbrev Answer : Type 0
Answer = Result (List Token) LexFault

byte_told : (bytes : List ℕ) (r : Answer) → LexesTo bytes r → (place : ℕ) → r ≡ Err (BadByte place) → IsBadByte bytes place
byte_told bytes (Ok answer) t place e = cc
byte_told bytes (Err (BadByte other)) t place e = let f : other ≡ place = cc in subst (λ (k : ℕ). IsBadByte bytes k) f t
byte_told bytes (Err (BadToken other)) t place e = cc
byte_told bytes (Err NoMemory) t place e = cc

tells_byte : (bytes : List ℕ) (r : Answer) → LexesTo bytes r → (place : ℕ) → IsBadByte bytes place → r ≡ Err (BadByte place)
tells_byte bytes (Ok answer) t place b = absurd (bad_not_allowed bytes place b t.0)
tells_byte bytes (Err (BadByte other)) t place b = ap (λ (k : ℕ). Err (BadByte k)) (sym (run_from_bad bytes other t) ∙ run_from_bad bytes place b)
tells_byte bytes (Err (BadToken other)) t place b = absurd (bad_not_allowed bytes place b t.0)
tells_byte bytes (Err NoMemory) t place b = absurd (bad_not_allowed bytes place b t)

pub tells_bad_byte : (bytes : List ℕ) (r : Answer) → LexesTo bytes r → (place : ℕ) → (r ≡ Err (BadByte place)) ↔ IsBadByte bytes place
tells_bad_byte bytes r t place = (byte_told bytes r t place, tells_byte bytes r t place)

pub tells_bad_token : (bytes : List ℕ) (r : Answer) → LexesTo bytes r → (place : ℕ) → r ≡ Err (BadToken place) → IsBadToken bytes place
tells_bad_token bytes (Ok answer) t place e = cc
tells_bad_token bytes (Err (BadByte other)) t place e = cc
tells_bad_token bytes (Err (BadToken other)) t place e = let f : other ≡ place = cc in subst (λ (k : ℕ). IsBadToken bytes k) f t
tells_bad_token bytes (Err NoMemory) t place e = cc

same_place : (bytes : List ℕ) (m n : ℕ) → IsBadToken bytes m → IsBadToken bytes n → m ≡ n
same_place bytes m n (a, (before, rest, s, i)) (b, (others, over, r, j)) = (one_reading s (nothing_from rest i) r (nothing_from over j)).1

pub tells_bad_token_told : (bytes : List ℕ) (r : Answer) → LexesTo bytes r → (place : ℕ) → IsBadToken bytes place → (r ≡ Err (BadToken place)) ⊎ (r ≡ Err NoMemory)
tells_bad_token_told bytes (Ok answer) t place b = absurd (not_both bytes place answer b t)
tells_bad_token_told bytes (Err (BadByte other)) t place b = absurd (bad_not_allowed bytes other t b.0)
tells_bad_token_told bytes (Err (BadToken other)) t place b = inl (ap (λ (k : ℕ). Err (BadToken k)) (same_place bytes other place t b))
tells_bad_token_told bytes (Err NoMemory) t place b = inr refl
